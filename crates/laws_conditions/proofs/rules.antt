-- Rules give the local conditions.
pub mod Moves
pub mod Edges
pub mod Costs
pub mod Registers
pub mod ShownCosts
pub mod Depths
pub mod Serially

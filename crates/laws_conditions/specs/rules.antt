-- What the rules that a verifier checks say of frames.
pub mod Moves
pub mod Edges
pub mod Costs
pub mod Registers
pub mod ShownCosts
pub mod Depths
pub mod Serially
pub mod InProofs

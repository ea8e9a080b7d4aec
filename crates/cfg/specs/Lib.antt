pub mod Edges
pub mod Paths
pub mod Rules
pub mod Reached

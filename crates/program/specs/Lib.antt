pub mod Blocks
pub mod Calls
pub mod Cells
pub mod Steps
pub mod Widths
pub mod Left
pub mod Heads
pub mod Objects
pub mod ObjectNames
pub mod Phis
-- for the crates above
pub use Rattle.syntax.specs as syntax
pub use Rattle.linear.specs as linear

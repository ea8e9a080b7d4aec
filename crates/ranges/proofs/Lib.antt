pub mod Making
pub mod Tabling
pub mod Walking
pub mod Blocks
pub mod Edges
pub mod Truth
pub mod Passed
pub mod Products
-- for the crates above
pub use Rattle.linear_shown.proofs as linear_shown

pub mod Cells
pub mod Made
pub mod Rows
pub mod Requirements
pub mod Serially
pub mod Sums
pub mod Named
pub mod Refilled
-- for the crates above
pub use Rattle.verifier.specs as verifier

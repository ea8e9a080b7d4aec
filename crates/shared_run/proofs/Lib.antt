pub mod Runs
pub mod Starts
pub mod Stories
pub mod Bound
pub mod Begun
pub mod Calls
pub mod Commits
pub mod Made
pub mod Strands
pub mod Settling
pub mod Resting
-- for the crates above
pub use Rattle.schedule_core.proofs as schedule_core

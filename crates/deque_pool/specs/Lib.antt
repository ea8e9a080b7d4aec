pub mod Gates
pub mod Leaving
-- for the crates above
pub use Rattle.shared_run.specs.schedule_core as schedule_core

pub mod Spelled
pub mod Story
pub mod Launching
pub mod Calls
pub mod Strands
pub mod Answer
pub mod Resting
-- for the crates above
pub use Rattle.schedule_core.specs.store as store
pub use Rattle.schedule_core.specs as schedule_core
pub use Rattle.schedule_core.specs.schedule_workers as schedule_workers
pub use Rattle.schedule_core.specs.serial_machine as serial_machine

pub mod Admission
pub mod Stages
pub mod Lines
pub mod Viewed
pub mod Replaying
pub mod Parents
pub mod Spots
pub mod Over
pub mod FrameStrands
pub mod Strands
pub mod Resting
pub mod ReadyBelow
pub mod FrameViews
pub mod laws_workers
-- for the crates above
pub use Rattle.serial_machine.specs.laws_conditions as laws_conditions
pub use Rattle.serial_machine.specs as serial_machine
pub use Rattle.serial_machine.specs.store as store
pub use Rattle.serial_machine.specs.laws_schedule as laws_schedule
pub use Rattle.serial_machine.specs.verifier as verifier
pub use Rattle.schedule_commit.specs as schedule_commit
pub use Rattle.schedule_commit.specs.frame_strand as frame_strand
pub use Rattle.schedule_commit.specs.strand as strand
pub use Rattle.frame_engine.specs as frame_engine
pub use Rattle.schedule_workers.specs as schedule_workers
pub use Rattle.program.specs as program

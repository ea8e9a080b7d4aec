pub mod Paths
pub mod Cells
pub mod Arithmetic
pub mod Frames
pub mod Effect
pub mod State
pub mod Tree
pub mod SerialMeaning
pub mod Events
pub mod Replay
pub mod Counts
pub mod Tasks
pub mod Below
pub mod Written
pub mod CoreSteps
pub mod Sound
-- for the crates above
pub use Rattle.program.specs as program
pub use Rattle.program.specs.linear as linear

pub mod Arguments
pub mod Globals
mod Sizes
pub mod Ends
pub mod room
pub mod walks
pub mod safe
pub mod text
pub mod Rows
pub mod Held
pub mod Engine
pub mod Windows
-- for the crates above
pub use Rattle.laws_schedule.proofs as laws_schedule
pub use Rattle.laws_schedule.proofs.laws_conditions as laws_conditions
pub use Rattle.laws_schedule.proofs.laws_phases as laws_phases

pub mod Waits
pub mod Accepted
pub mod Bounds
pub mod Findings
pub mod Serially
pub mod Starting
pub mod Along
pub mod Runs
pub mod Schedules
pub mod Promise
pub mod kinds
pub mod pointers
pub mod typing
pub mod zones
pub mod safe
-- for the crates above
pub use Rattle.laws_conditions.proofs as laws_conditions
pub use Rattle.ir_reader.proofs as ir_reader
pub use Rattle.laws_phases.proofs as laws_phases
pub use Rattle.types.proofs as types

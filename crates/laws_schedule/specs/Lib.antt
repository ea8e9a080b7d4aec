pub mod Promise
pub mod pointers
pub mod typing
pub mod kinds
pub mod zones
pub mod safe
-- for the crates above
pub use Rattle.laws_conditions.specs as laws_conditions
pub use Rattle.ir_reader.specs as ir_reader
pub use Rattle.laws_phases.specs as laws_phases
pub use Rattle.refusal.specs as refusal
pub use Rattle.types.specs as types
pub use Rattle.verifier.specs as verifier

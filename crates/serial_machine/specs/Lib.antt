pub mod SerialPromise
pub mod Decoding
pub mod walks
pub mod Safe
pub mod Rows
-- for the crates above
pub use Rattle.laws_schedule.specs as laws_schedule
pub use Rattle.store.specs as store
pub use Rattle.store.specs.verifier as verifier
pub use Rattle.laws_schedule.specs.laws_conditions as laws_conditions
pub use Rattle.laws_schedule.specs.laws_phases as laws_phases

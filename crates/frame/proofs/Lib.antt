pub mod Changes
-- for the crates above
pub use Rattle.semantics.proofs as semantics

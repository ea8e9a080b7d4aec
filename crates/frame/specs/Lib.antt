pub mod Reading
-- for the crates above
pub use Rattle.semantics.specs as semantics

pub mod ByLabel
pub mod Labels
pub mod Matched
pub mod Mixed
pub mod Rules
pub mod Tasks
-- for the crates above
pub use Rattle.cfg.specs as cfg

pub mod defined
pub mod regions
pub mod facts
pub mod zones
pub mod costs
-- for the crates above
pub use Rattle.cfg.proofs as cfg
pub use Rattle.ranges.proofs as ranges

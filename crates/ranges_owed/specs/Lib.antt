pub mod Sums
pub mod Inequalities
pub mod Scales
pub mod Owed
-- for the crates above
pub use Rattle.cfg.specs as cfg

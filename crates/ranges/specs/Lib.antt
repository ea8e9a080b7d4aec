pub mod Sums
pub mod Learned
pub mod Edges
pub mod Places
pub mod Rules
pub mod Walks
pub mod Truth
pub mod Judged
pub mod Tables
-- for the crates above
pub use Rattle.linear_shown.specs as linear_shown
pub use Rattle.ranges_owed.specs as ranges_owed
pub use Rattle.ranges_owed.specs.cfg as cfg
pub use Rattle.region_match.specs as region_match

pub mod defined
pub mod regions
pub mod facts
pub mod zones
pub mod costs
-- for the crates above
pub use Rattle.cfg.specs as cfg
pub use Rattle.cost_table.specs as cost_table
pub use Rattle.definedness.specs as definedness
pub use Rattle.footprints.specs as footprints
pub use Rattle.ranges.specs.ranges_owed as ranges_owed
pub use Rattle.ranges.specs as ranges
pub use Rattle.region_match.specs as region_match

pub mod Cells
pub mod Footprints
pub mod Pointers
pub mod Rules
pub mod Touched
pub use Rattle.footprints_feet.specs.footprints_zones as footprints_zones
pub use Rattle.footprints_feet.specs.footprints_zones.Zones
pub use Rattle.ranges.specs as ranges

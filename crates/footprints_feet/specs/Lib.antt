pub mod Feet
pub mod Used
-- for the crates above
pub use Rattle.footprints_zones.specs as footprints_zones

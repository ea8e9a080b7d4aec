-- Costs and depths of the serial run from any place.
pub mod Depths
pub mod Levels
pub mod Shown
pub mod Ends

-- Costs and depths of the serial run from any place.
pub mod Depths
pub mod Sums
pub mod Moves
pub mod Spent
pub mod Entries
pub mod Shown
pub mod Levels
pub mod Ends

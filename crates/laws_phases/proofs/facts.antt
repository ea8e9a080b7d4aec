-- Facts are kept along the serial run, and where they hold nothing traps.
pub mod Sums
pub mod Learning
pub mod Effects
pub mod Places
pub mod Steps
pub mod Edges
pub mod Calls
pub mod Kept
pub mod Traps
pub mod Handed
pub mod Stable

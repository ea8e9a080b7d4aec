-- Facts are kept along the serial run, and where they hold nothing traps.
pub mod Known
pub mod Owing
pub mod Kept
pub mod Traps
pub mod Handed
pub mod Stable

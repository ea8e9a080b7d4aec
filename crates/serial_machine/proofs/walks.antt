-- What holds along the steps of a serial run.
pub mod Apart
pub mod Ahead
pub mod WalksKept
pub mod Counted

pub mod Granted
pub mod Undecided

pub mod Marking
pub mod Searching

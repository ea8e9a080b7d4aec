pub mod Marks
pub mod Ways
pub mod Reached

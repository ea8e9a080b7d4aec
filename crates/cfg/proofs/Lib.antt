pub mod EdgeLists
pub mod Functions
pub mod Matching
pub mod Programs
pub mod Searching

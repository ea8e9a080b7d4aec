pub mod Index
pub mod Search
pub mod Shown
pub mod Tested
pub mod Sides

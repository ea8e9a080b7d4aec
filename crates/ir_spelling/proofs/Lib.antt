pub mod Grouped
pub mod Pushed
pub mod Spelled

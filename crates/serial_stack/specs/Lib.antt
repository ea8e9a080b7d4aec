pub mod Steps
pub mod Layouts
pub mod StackShown
pub mod Runs
pub mod Starts

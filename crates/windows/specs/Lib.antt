pub mod Passing
pub mod CodeSlots
pub mod Nested
pub mod WindowsShown
pub mod Runs
pub mod Walks
pub mod Slots

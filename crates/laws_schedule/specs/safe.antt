-- What holds of every living frame of every state that a schedule leads to, in any order of steps.
pub mod Kept
pub mod Objects
pub mod Steps
pub mod Reads
pub mod Safe
pub mod Sizes
pub mod Promise

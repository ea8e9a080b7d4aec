-- What holds of every living frame of every state that a schedule leads to, in any order of steps.
pub mod Counted
pub mod Everywhere
pub mod Held
pub mod Made
pub mod Objects
pub mod Owners
pub mod Ready
pub mod Replayed
pub mod Below
pub mod Bounds
pub mod Cells
pub mod Registers
pub mod Sizes
pub mod Safe

-- Registers hold values of their kinds.
pub mod Widths
pub mod Registers
pub mod Kept
pub mod Tested
pub mod Needed
pub mod Ready
pub mod Given
pub mod Literals
pub mod Uses

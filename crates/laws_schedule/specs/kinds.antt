-- Registers hold values of their kinds.
pub mod Holding
pub mod Uses
pub mod Ready
pub mod Kept

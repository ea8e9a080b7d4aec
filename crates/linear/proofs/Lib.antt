pub mod Coefficients
pub mod Making
pub mod Placing
pub mod Respects
pub mod Values
pub mod Added

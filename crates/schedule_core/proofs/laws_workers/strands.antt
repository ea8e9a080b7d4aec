pub mod Feet
pub mod Numbers
pub mod Facts
pub mod Alone
pub mod Law
pub mod Loading

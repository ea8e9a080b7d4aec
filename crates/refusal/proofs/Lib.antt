pub mod Elements
pub mod Judging
pub mod Places

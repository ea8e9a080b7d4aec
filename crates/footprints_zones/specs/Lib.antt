pub mod Ends
pub mod Levels
pub mod Places
pub mod Zones
pub mod Meets

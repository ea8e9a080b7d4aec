pub mod Setting
pub mod Made
pub mod Refilling
pub mod Unmet
pub mod Words

pub mod Cost
pub mod Doing
pub mod Depth
pub mod Rules
pub mod Tables

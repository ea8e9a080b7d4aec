mod Differences
pub mod Giving
pub mod Growing
pub mod Inversion
pub mod Kept
pub mod Marks
pub mod Naming
pub mod Ordered
pub mod Tables

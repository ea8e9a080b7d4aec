pub mod Costs
pub mod Depths
pub mod Whole
pub mod Limits
pub mod Lists
pub mod Verdicts

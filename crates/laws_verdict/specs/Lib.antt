pub mod Verdicts
pub mod Sure
pub mod Sums
pub mod Limited
pub mod Written
pub mod Formed
pub mod Plain

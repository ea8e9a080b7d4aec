pub mod theorem
pub mod rules
pub mod sample

pub mod Adding
pub mod Again
pub mod AgainTerms
pub mod LinesAgain
pub mod LinesRead
mod Names
pub mod Ordered
mod Written

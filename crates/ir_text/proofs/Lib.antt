pub mod Fills
pub mod Unlining
pub mod Rerun
pub mod PrintedLines
pub mod Again
pub mod Bridge
pub mod RoundTrip

-- Different names of objects in a function's text never name one object.
pub mod Anew
pub mod Given
pub mod Kept
pub mod Passed
pub mod Runs

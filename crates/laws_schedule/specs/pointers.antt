-- Different names of objects in a function's text never name one object.
pub mod Apart
pub mod Given

-- What the text of a program names is there.
pub mod Named
pub mod Fits

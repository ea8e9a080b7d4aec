pub mod Cells
pub mod Widths

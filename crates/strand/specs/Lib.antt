pub mod Layouts
pub mod OwnCells
pub mod Putting
pub mod CellsKept
pub mod Met
pub mod Spans
pub mod Boxes
pub mod Steps
pub mod Along
pub mod Needs
pub mod Boards
pub mod Codes
pub mod Crossing
pub mod Bounds
pub mod Loading
pub mod Leaving
pub mod Going
-- for the crates above
pub use Rattle.serial_stack.specs as serial_stack
pub use Rattle.strand_pages.specs.frame_strand as frame_strand
pub use Rattle.strand_pages.specs as strand_pages
pub use Rattle.windows.specs as windows

pub mod Accessing
pub mod Adding
pub mod Bits
pub mod Committing
pub mod Doing
pub mod Holding
pub mod Known
pub mod Listing
pub mod Logs
pub mod Marks
pub mod Pages
pub mod Paging
pub mod Tables
-- for the crates above
pub use Rattle.frame_strand.specs as frame_strand

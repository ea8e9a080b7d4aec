pub mod Addresses
pub mod Around
pub mod Changing
pub mod Committed
pub mod Copied
pub mod Holding
pub mod Keeping
pub mod Listed
pub mod Marked
pub mod Paged
pub mod Rows
pub mod Scanning
pub mod Slots
pub mod Taken
pub mod Opening
-- for the crates above
pub use Rattle.frame_strand.proofs as frame_strand

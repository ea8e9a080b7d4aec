pub mod Absorbing
pub mod Fitting
pub mod Putting
pub mod TakingBack
pub mod strands
-- for the crates above
pub use Rattle.frame_strand.specs as frame_strand
pub use Rattle.laws_strands.specs as laws_strands
pub use Rattle.strand.specs as strand

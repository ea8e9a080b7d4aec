pub mod Puts
pub mod Absorbed
pub mod Restored
pub mod TakenBack
pub mod Sound
pub mod Noting
pub mod Bordering
pub mod Fitted
pub mod Put
pub mod Goes
pub mod Taken
pub mod Undone
-- for the crates above
pub use Rattle.frame_strand.proofs as frame_strand
pub use Rattle.strand.proofs as strand

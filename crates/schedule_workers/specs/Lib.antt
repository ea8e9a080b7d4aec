pub mod Scheduling
pub mod Tasks
pub mod Layouts
pub mod RunShown
pub mod Going
pub mod Forking
pub mod Rooms
pub mod Calls
pub mod Follows
pub mod Left
pub mod Stalls
pub mod Lowest
pub mod Events
pub mod Starts
pub mod Roots
pub mod Copying
pub mod Lent
pub mod Pieces
-- for the crates above
pub use Rattle.frame_engine.specs as frame_engine

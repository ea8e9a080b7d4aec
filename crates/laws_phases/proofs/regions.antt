-- Regions that are open at a block; none is where a frame ends.
pub mod Search
pub mod Tests
pub mod Open
pub mod Closed

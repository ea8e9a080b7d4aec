-- Regions that are open at a block; none is where a frame ends.
pub mod Closed

-- What one step of one frame touches lies in its zones, clear of what is pending.
pub mod Uses
pub mod Accesses
pub mod Children
pub mod Edges
pub mod Callees
pub mod Stays
pub mod Tables

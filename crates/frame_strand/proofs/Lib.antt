mod Refilled
pub mod Chained
pub mod CellsKept
pub mod Keeps
pub mod Holding
pub mod Showing
pub mod Walking
pub mod Advancing
pub mod Borders
pub mod Fitting
pub mod Alone
pub mod Seen
pub mod Pausing
pub mod Going
pub mod Beginning
pub mod Filling
pub mod Keeping

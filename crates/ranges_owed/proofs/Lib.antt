mod Cells
mod Differences
mod Joined

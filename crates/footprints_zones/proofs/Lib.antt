mod Clears
mod EndBounds
mod EndSums
mod EndsMade
mod Levels
mod Numbers
mod Orders

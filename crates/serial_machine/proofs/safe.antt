-- A serial run can do its next step wherever it comes.
pub mod Stacks
pub mod Mirrors
pub mod Sizes
pub mod Going

pub mod Earliest
pub mod Refusals
pub mod Named
pub mod Before

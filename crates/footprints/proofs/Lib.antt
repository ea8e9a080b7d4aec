pub mod CellLaws
pub mod ByTables
pub mod Looked
pub mod After
pub mod Passing
mod Callees

pub mod Labels
pub mod Sets

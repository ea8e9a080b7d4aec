-- Allocas that are read are sure, by one labelling.
pub mod Greatest
pub mod Decided
pub mod Labelling
pub mod Reads

pub mod InstructionText
pub mod LineText
pub mod Pieces
pub mod Spelling
pub mod TerminatorText

pub mod ListLoop
pub mod Distinct
pub mod Numbers
pub mod Texts
pub mod Again
pub mod Digits
pub mod Lexed
pub mod Takes
pub mod InstructionTakes
pub mod TerminatorTakes
pub mod Parted
mod Pushed
pub mod SymbolsSpelled

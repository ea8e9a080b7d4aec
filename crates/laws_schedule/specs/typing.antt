-- What the rules on names, types and pointers give of a program.
pub mod Typed
pub mod Accepted
pub mod Kinds

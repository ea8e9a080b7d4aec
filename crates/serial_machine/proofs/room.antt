-- What the operands of a frame's instruction are.
pub mod Operands

pub mod Operands
pub mod Levels

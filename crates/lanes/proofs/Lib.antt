pub mod Operators
pub mod Placing

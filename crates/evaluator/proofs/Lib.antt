pub mod Digits
pub mod Acting
pub mod Evaluation

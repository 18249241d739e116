pub mod Whenever
pub mod Truths

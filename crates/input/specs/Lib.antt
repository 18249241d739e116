pub mod Meaning
pub mod Counts

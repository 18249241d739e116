pub mod Whole
pub mod Silence

pub mod Words
pub mod Rows
pub mod Walk
pub mod Returns

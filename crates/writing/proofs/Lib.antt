pub mod Parts
pub mod Rows
pub mod Tables
pub mod WrittenRows
pub mod OwnRows

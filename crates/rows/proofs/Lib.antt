pub mod RowBytes
pub mod Comparison
pub mod FirstPair
pub mod RowLists

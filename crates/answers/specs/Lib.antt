pub mod Meaning
pub mod Orders
pub mod Inside

pub mod Matches
pub mod SomeRow

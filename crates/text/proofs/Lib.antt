pub mod Printing
pub mod Decimals

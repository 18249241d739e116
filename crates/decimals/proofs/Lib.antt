pub mod Values
pub mod Printed
pub mod Parsed

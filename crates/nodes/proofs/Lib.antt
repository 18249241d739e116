pub mod Climbing
pub mod Passing

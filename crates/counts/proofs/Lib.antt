pub mod Raising
pub mod Tallies

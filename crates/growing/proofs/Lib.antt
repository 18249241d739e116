pub mod Mergers
pub mod Searches
pub mod Verdicts
pub mod Histories
pub mod Agreement

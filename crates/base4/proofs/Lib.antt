pub mod Shifts
pub mod Spellings
pub mod Indexes
pub mod Listing

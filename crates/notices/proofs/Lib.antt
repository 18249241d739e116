pub mod Counts
pub mod Faults
pub mod Found
pub mod Lookups
pub mod SoundFields

pub mod Faults
pub mod Reading
pub mod Walks
pub mod Apart

pub mod Acting
pub mod NodeLoop
pub mod Extents
pub mod Filling
pub mod Words
pub mod Passes
pub mod Lanes

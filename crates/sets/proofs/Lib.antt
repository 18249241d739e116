pub mod Members
pub mod Folds
pub mod Numbers
pub mod Handed
pub mod Meets
pub mod Bounds
pub mod Images
pub mod Low

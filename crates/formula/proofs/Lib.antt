pub mod Sizes
pub mod Shares
pub mod Largest
pub mod Added
pub mod OwnShares
pub mod MostNodes

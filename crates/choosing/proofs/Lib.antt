pub mod Choices
pub mod Certain
pub mod Gains

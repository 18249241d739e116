pub mod Above
pub mod Numbers
pub mod Headers
pub mod Rests

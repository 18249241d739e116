pub mod Firsts
pub mod Looking
pub mod SetBit
pub mod FirstAnswer
pub mod FirstColumn
pub mod NoneFails
pub mod Apart

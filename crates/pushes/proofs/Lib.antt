pub mod Masks
pub mod Laying

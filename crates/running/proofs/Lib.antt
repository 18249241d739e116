pub mod Heights
pub mod Success
pub mod Parts
pub mod Leads
pub mod Places
pub mod Turning
pub mod Placed

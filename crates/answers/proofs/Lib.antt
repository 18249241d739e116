pub mod Every
pub mod Claims
pub mod Laws
pub mod Cases

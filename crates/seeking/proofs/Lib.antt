pub mod LaneBits
pub mod WordSteps
pub mod FirstSituation

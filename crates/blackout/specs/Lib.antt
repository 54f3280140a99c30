pub mod Blackout
pub mod BlackoutSteps

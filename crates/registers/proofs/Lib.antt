pub mod Ranges
pub mod Places
pub mod Ram
pub mod MapSteps

pub mod Write
pub mod WriteSteps

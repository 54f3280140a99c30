pub mod CutSteps
pub mod Sound

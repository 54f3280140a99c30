pub mod Cut
pub mod CutSteps

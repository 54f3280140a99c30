pub mod Cycles
pub mod CycleSteps

pub mod Cycle
pub mod CycleSteps
pub mod Query

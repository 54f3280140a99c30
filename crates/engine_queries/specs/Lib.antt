pub mod Queries
pub mod QuerySteps

pub mod SmallSteps
pub mod Number

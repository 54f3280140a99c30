pub mod BlackoutSteps

pub mod QuerySteps

pub mod Fall
pub mod FallCallSteps

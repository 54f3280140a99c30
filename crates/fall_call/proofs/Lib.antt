pub mod FallCallSteps

pub mod Speed
pub mod SwitchCallSteps

pub mod SwitchCallSteps

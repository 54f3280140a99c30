pub mod Says
pub mod BusCalls
pub mod SharedBusSteps
pub mod BusCallSteps
pub mod BusCauseSteps

pub mod Bus
pub mod BusCall
pub mod SharedBusSteps
pub mod BusCallSteps
pub mod Inside
pub mod BusCauseSteps

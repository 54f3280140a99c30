pub mod Map
pub mod Ram
pub mod MapSteps

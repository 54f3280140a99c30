pub mod Pair
pub mod Lcd
pub mod PairCallSteps

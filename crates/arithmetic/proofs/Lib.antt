pub mod Tests
pub mod Choice
pub mod SmallSteps
pub mod Digits
pub mod Same
pub mod Copied

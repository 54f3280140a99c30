pub mod Answers
pub mod Queries
pub mod CauseNumbers
pub mod ValuesTold

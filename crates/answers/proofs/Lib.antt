pub mod Numbers
pub mod Queries
pub mod CauseNumbers
pub mod ValuesTold

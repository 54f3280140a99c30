pub mod Read
pub mod ReadSteps

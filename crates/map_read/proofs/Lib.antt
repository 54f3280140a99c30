pub mod Mapped
pub mod Ram
pub mod ReadSteps
pub mod Key1

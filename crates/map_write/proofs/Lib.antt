pub mod Ram
pub mod Mapped
pub mod Keeps
pub mod WriteSteps

pub mod Inputs
pub mod Widths

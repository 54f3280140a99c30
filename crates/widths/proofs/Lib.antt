pub mod Numbers
pub mod Engine
pub mod Widths

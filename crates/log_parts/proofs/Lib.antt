pub mod Parts
pub mod Judged
pub mod Logged

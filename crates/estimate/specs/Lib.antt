pub mod Estimate
pub mod Counted

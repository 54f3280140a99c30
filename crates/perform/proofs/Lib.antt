pub mod Declined
pub mod Outcomes
pub mod Records

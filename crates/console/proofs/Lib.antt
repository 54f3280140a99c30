pub mod Reached
pub mod Refusals
pub mod RefusalNumbers

pub mod Declined
pub mod Entry

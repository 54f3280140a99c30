pub mod Told
pub mod Declined

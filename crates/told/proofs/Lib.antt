pub mod Says
pub mod Declined

pub mod Declined

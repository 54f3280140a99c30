pub mod Perform
pub mod Record
pub mod Bussed

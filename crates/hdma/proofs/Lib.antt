pub mod Written
pub mod Steps
pub mod FromBit7
pub mod Reading

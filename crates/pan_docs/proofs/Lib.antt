pub mod Bits
pub mod Agrees

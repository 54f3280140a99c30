pub mod Lengths
pub mod Wram

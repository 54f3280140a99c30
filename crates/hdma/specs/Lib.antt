pub mod Pointers
pub mod Hdma5
pub mod Steps

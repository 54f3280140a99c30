pub mod Modes
pub mod Set
pub mod PowerOn
pub mod Refusals
pub mod Reached
pub mod RefusalNumbers

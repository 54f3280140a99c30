pub mod Speed
pub mod Switch
pub mod Steps

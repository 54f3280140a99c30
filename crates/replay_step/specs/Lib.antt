pub mod Record
pub mod Step
pub mod Line
pub mod LineCause

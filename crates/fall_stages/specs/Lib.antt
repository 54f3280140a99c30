pub mod Fall
pub mod QuietFall
pub mod StageSteps
pub mod Steps
pub mod Once
pub mod PendMarks
pub mod Refills
pub mod Windows

pub mod Rounds
pub mod GeneralTime
pub mod Instances

pub mod Shows
pub mod TurnIsPart

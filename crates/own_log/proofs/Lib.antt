pub mod Rest
pub mod LogTurnIsPart

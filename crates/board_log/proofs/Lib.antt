pub mod LogRecord
pub mod LineSteps
pub mod Cut
pub mod Found
pub mod OwnLog
pub mod JudgesInParts
pub mod LogsInParts

pub mod Records
pub mod LogRecord
pub mod OwnLog
pub mod LogsInParts
pub mod Judging
pub mod Verdict
pub mod JudgesInParts

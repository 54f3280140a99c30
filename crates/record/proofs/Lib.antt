pub mod DeclinedAnswer
pub mod AnswerLayout

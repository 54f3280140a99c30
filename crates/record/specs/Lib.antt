pub mod Input
pub mod Kind
pub mod Record
pub mod Answer
pub mod AnswerLayout

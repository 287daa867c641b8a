pub mod AnswerLines
pub mod Once
pub mod Sessions

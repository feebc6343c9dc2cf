pub mod AnswerLaws
pub mod AnswerRight

pub mod AnswerLemmas
pub mod NumberingLemmas

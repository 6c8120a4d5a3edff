pub mod AnswerLemmas
pub mod SessionLemmas
pub mod WriteLemmas

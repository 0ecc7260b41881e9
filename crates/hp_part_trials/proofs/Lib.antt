pub mod AnswerLemmas
pub mod SceneLemmas
pub mod TwinLemmas

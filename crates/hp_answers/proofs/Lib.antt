pub mod AnswerLemmas
pub mod RuleIndexLemmas

pub mod AnswerViews
pub mod RuleIndexes

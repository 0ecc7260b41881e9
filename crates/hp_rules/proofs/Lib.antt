pub mod RuleSteps
pub mod TaskSteps

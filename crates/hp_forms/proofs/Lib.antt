pub mod FileSteps
pub mod NumberedForms
pub mod PairSteps
pub mod PlanSteps
pub mod StepwiseSteps

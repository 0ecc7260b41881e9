pub mod BudgetSteps
pub mod LimitSteps

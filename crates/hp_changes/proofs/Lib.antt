pub mod ChangingSteps
pub mod HoldingSteps
pub mod TermSteps
pub mod WayLemmas

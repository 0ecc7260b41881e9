pub mod NumberSteps
pub mod PieceLemmas

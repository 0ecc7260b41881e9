pub mod PassLemmas
pub mod PassingLemmas
pub mod PassingSteps

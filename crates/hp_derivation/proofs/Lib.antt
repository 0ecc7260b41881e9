pub mod ChainLemmas
pub mod GoingSteps
pub mod NumberSteps
pub mod RollSteps

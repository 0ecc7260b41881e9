pub mod ComparedSteps
pub mod Exact
pub mod GrowthLemmas
pub mod KeptSteps
pub mod StepLemmas
pub mod Verified
pub mod VisitSteps

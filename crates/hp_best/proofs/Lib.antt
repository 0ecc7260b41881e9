pub mod BoundedSteps
pub mod Cheapest
pub mod ChoiceLemmas
pub mod CostLemmas
pub mod DownLemmas
pub mod GroundSteps
pub mod PriceSteps
pub mod VisitSteps

pub mod AfterSteps
pub mod BestSteps
pub mod CheapestLemmas
pub mod PlanningSteps
pub mod ReportLemmas
pub mod TellingLemmas
pub mod VerifySteps

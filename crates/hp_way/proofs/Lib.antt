pub mod ChildPaths
pub mod PlanSteps
pub mod StateSteps
pub mod WaySteps

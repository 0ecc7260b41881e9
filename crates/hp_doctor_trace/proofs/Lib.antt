pub mod LineSteps
pub mod TraceSteps

pub mod EndSteps
pub mod ReachSteps
pub mod StuckSteps
pub mod TraceSteps

pub mod Reaching
pub mod Traces
pub mod Tracing

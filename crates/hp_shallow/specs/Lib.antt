pub mod Deepening
pub mod LeastDepth
pub mod Walking

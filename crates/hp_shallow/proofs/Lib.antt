pub mod Deepened
pub mod DepthLemmas
pub mod EndLemmas
pub mod LeastLemmas
pub mod WalkSteps

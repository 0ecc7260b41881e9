pub mod SuccessorLemmas
pub mod StackLemmas
pub mod SearchNodeLemmas
pub mod ChildLemmas
pub mod RootSteps

pub mod AskingLemmas
pub mod LayingLemmas
pub mod LayingSteps
pub mod MarkLemmas
pub mod TreeLemmas

mod AgendaSteps
pub mod AgreeSteps
pub mod BegunLemmas
pub mod FrameSteps
pub mod LevelLemmas
pub mod QueueLemmas

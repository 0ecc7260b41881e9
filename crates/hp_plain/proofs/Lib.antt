pub mod CandidateLemmas
pub mod CandidateSteps
pub mod AgendaSteps
pub mod FrameSteps
pub mod SearchSteps

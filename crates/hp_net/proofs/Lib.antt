pub mod Counts
pub mod NetSteps
pub mod NextVisits
pub mod RunLemmas
pub mod StandingLemmas

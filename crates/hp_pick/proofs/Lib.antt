pub mod NotedLemmas
pub mod HearingSteps
pub mod StableLemmas
pub mod SortSteps
pub mod FillSteps
pub mod HeardLemmas

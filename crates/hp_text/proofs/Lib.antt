pub mod SpellingLemmas
pub mod ByteLemmas
pub mod PlaceLemmas
pub mod ScanSteps
pub mod Clear
pub mod ReadSteps
pub mod NodeLemmas
pub mod Stepped

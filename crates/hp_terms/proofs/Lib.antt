pub mod Turns
pub mod PlaceLemmas
pub mod ItemSteps
pub mod Sizes
pub mod PartSteps
pub mod WordLemmas

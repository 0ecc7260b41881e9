pub mod AcceptingLemmas
pub mod HaltLemmas
pub mod LineLemmas
pub mod LoadingSteps
pub mod MendLemmas
pub mod NumberLemmas
pub mod RemarkSteps
pub mod ToldLemmas

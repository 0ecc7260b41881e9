pub mod SiteLemmas
pub mod AgreeLemmas
mod OperatingSteps

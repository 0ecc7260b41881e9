pub mod FaultLemmas
pub mod LevelLemmas
pub mod PartLemmas
pub mod FirstLemmas
mod NameLemmas
mod SurveySteps

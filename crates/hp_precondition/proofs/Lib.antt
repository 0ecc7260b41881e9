mod PreconditionLemmas
mod NothingLemmas
pub mod PickedScenes

pub mod PlaceLemmas
pub mod CellLemmas
pub mod KeyLemmas
pub mod InternSteps
pub mod ViewLemmas
pub mod NameLemmas

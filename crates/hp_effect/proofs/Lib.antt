pub mod CostLemmas
pub mod PutLemmas
pub mod GatheringLemmas

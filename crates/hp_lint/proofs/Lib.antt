pub mod Steps
pub mod BranchLemmas
pub mod TableLemmas
pub mod CountLemmas
pub mod StableLemmas
pub mod OrderLemmas

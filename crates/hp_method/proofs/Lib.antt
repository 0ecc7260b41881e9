pub mod BranchNodes
mod ChosenEvents

pub mod PreconditionNodes
pub mod OnceLaws
pub mod Picks
pub mod PickedLaws

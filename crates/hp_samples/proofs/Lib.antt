pub mod Computed
pub mod Forests

pub mod Branches
pub mod Operators

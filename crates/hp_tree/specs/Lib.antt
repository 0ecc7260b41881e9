pub mod Successors
pub mod Stacks
pub mod SearchNodes
pub mod Children
pub mod Roots

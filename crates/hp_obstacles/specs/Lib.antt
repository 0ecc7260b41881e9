pub mod Facts
pub mod Obstacles
pub mod Questions
pub mod Tasks

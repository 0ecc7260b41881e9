pub mod Blames
pub mod Firsts
pub mod Patterns
pub mod Questions
pub mod Sites

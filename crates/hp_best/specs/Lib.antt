pub mod Bounded
pub mod Searching

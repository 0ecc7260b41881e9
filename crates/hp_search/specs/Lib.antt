pub mod Searches
pub mod Planned
pub mod Led

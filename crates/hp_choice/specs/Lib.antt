pub mod Deeds
pub mod Choices
pub mod Served
pub mod Asking
pub mod FirstSatisfier
pub mod Questions
pub mod Starting
pub mod Tests

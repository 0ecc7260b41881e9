pub mod Enumerations
pub mod Reach
pub mod Reaching
pub mod Stepping

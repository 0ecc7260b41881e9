pub mod Arriving
pub mod DeadEnds
pub mod Finding
pub mod Samples
pub mod Searching

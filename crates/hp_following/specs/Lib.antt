pub mod Follows
pub mod Heading
pub mod Samples
pub mod Tracking

pub mod Passes
pub mod Passing

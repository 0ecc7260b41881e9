pub mod Kept
pub mod Verifying

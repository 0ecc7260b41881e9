pub mod Changes
pub mod Changing

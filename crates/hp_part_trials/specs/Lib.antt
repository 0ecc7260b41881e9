pub mod Accepted
pub mod Answered
pub mod Twins
pub mod Moves
pub mod Explained

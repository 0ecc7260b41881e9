pub mod Runs
pub mod Standings

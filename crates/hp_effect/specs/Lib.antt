pub mod Puts
pub mod Costs
pub mod Gathering

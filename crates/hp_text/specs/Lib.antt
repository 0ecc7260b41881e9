pub mod Nodes
pub mod NodeLaws
pub mod Spellings
pub mod Refusals
pub mod Scan
pub mod Places
pub mod Stepping

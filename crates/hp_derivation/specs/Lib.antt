pub mod Chains
pub mod Derived
pub mod Goings
pub mod Numbering
pub mod Orders
pub mod Rolls

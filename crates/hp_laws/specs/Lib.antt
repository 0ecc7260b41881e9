pub mod Readings
pub mod TreeLaws
pub mod Derivations
pub mod SatisfierLaws
pub mod Plain
pub mod Sayings
pub mod RulesByName
pub mod HeardAlike

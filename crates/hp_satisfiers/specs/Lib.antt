pub mod Places
pub mod Scenes
pub mod EffectsOutcomes
pub mod Listed
pub mod Sources

pub mod AgainSteps
pub mod BackSteps
pub mod CellSteps
pub mod FrameLevels
pub mod MarkSteps
pub mod SearchSteps
mod LedSteps
mod PathFrames
mod LedLemmas

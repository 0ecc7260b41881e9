pub mod ChangeSteps
pub mod DeedSteps
pub mod TellingSteps
pub mod TextSteps
pub mod TreeSteps

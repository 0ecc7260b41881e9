mod AgainstSteps
mod BesideSteps
mod BlamedSteps
mod FilledSteps
mod FurtherSteps
mod HeadSteps
mod PairSteps
pub mod ReasonSteps
mod RecurSteps
mod StepSteps

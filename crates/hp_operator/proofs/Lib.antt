mod BodyLemmas
mod ChangedLemmas
mod ChangedNodes
mod SideSteps
mod WholeSteps

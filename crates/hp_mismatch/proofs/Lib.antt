mod LawSteps
mod MatchSteps
mod MismatchSteps
mod ValueSteps

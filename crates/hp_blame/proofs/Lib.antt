pub mod FirstLemmas
pub mod PatternLemmas
pub mod ValueSteps

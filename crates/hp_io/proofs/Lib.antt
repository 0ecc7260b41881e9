pub mod FileLemmas
pub mod RuleLemmas

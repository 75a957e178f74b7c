pub mod StandsAfterLemmas
pub mod EnabledLemmas
pub mod ReachedLemmas
pub mod RuleLemmas

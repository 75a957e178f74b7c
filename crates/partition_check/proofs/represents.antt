pub mod KnownLemmas
pub mod JudgedLemmas
pub mod DelegatedLemmas
pub mod MarkLemmas
pub mod RepresentsLemmas
pub mod DelegateLemmas
pub mod NoteLemmas
pub mod TheoremLemmas

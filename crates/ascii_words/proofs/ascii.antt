pub mod ClassLemmas
pub mod PairLemmas
pub mod JoinLemmas
pub mod RuleLemmas
pub mod BoundLemmas
pub mod BlankLemmas
pub mod WordsLemmas

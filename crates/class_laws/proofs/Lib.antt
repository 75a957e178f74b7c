pub mod counts
pub mod JoinLemmas

pub mod CountedLemmas
pub mod GroupsLemmas
pub mod NumberingLemmas

pub mod GrammarLemmas
pub mod NamesLemmas

pub mod SpellingLemmas
pub mod TokensLemmas

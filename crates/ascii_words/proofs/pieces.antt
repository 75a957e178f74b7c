pub mod CutLemmas
pub mod WordsLemmas

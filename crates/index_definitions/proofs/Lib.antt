pub mod GreatestLemmas
pub mod GroupingLemmas
pub mod IndexesLemmas
pub mod ListsLemmas
pub mod NumberedLemmas
pub mod OptionsLemmas
pub mod PostingsLemmas
pub mod SaidLemmas
pub mod TermsLemmas
pub mod WordsLemmas
mod WorkedExamples

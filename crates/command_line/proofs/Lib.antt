pub mod GivenLemmas
pub mod NumbersLemmas
pub mod PiecesLemmas
pub mod RestsLemmas
pub mod WordsLemmas

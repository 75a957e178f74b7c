pub mod PostingListsLemmas
pub mod NumbersLemmas
pub mod SpellingLemmas
pub mod StuckLemmas
pub mod AppendingLemmas
pub mod ReadingLemmas

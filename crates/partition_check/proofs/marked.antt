pub mod AcceptedLemmas
pub mod ChangedLemmas

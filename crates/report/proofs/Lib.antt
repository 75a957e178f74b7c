pub mod EpochSetsLemmas
pub mod LanesLemmas
pub mod PrintingLemmas
pub mod TextsLemmas
pub mod TraceLemmas

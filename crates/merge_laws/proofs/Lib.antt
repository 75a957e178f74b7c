pub mod OrderLemmas
pub mod BegunLemmas
pub mod PlaceLemmas
pub mod MoveLemmas
pub mod MergesLemmas

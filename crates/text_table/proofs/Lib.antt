pub mod BucketsLemmas
pub mod LookupsLemmas
pub mod TextListsLemmas
pub mod TextMapsLemmas
pub mod TextTablesLemmas

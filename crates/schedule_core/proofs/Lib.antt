pub mod CallLemmas
pub mod EventLemmas
pub mod KeptLemmas
pub mod PlaceLemmas
pub mod QueueLemmas
pub mod ReplayLemmas
pub mod StoreLemmas

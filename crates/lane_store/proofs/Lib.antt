pub mod StoreLemmas
pub mod IdleLemmas
mod CallLemmas
pub mod TakenLemmas
pub mod ViewLemmas
pub mod ComeLemmas
mod ReadLemmas

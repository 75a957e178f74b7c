pub mod ListLemmas
pub mod OutcomeLemmas
pub mod RunLemmas
pub mod HomeLemmas

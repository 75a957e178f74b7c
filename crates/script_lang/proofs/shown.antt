pub mod RepliesLemmas
pub mod RunningLemmas
pub mod YieldsLemmas

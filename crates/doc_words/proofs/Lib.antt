pub mod FoldLemmas
pub mod LineLemmas
pub mod LossyLemmas
pub mod NumberedLemmas
pub mod StopSetLemmas
pub mod WordCountLemmas

pub mod FrontLemmas
pub mod BrokenLemmas
pub mod LossyLemmas

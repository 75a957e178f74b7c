pub mod OperatedLemmas
pub mod ObjectsLemmas

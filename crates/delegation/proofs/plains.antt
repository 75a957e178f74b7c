pub mod OperationLemmas
pub mod PlainLemmas

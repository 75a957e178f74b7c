pub mod WorkedMerges
pub mod WorkedReplays

pub mod Shards
pub mod Counted
pub mod kept

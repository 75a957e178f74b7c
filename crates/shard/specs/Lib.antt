pub mod Shards
pub mod ShardTerms

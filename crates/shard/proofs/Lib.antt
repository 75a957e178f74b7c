pub mod FindLemmas
pub mod GatherLemmas
pub mod HeldLemmas
pub mod HeldTermsLemmas
pub mod ShardLemmas
pub mod ShardTermsLemmas

pub mod FollowLemmas
pub mod ProgramLemmas

pub mod LineFeedLemmas
pub mod LineEndLemmas
pub mod RestartLemmas

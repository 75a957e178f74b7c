pub mod SentLemmas
pub mod FrontLemmas

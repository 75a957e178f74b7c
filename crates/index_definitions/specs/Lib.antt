pub mod Words
pub mod Terms
pub mod Postings
pub mod PostingLists
pub mod Index
pub mod Indexes
pub mod IndexText

-- What a split document keeps: numbers for its words, and groups of positions.
pub mod Groups
pub mod Numbers

pub mod Picks
pub mod Merging
pub mod kept

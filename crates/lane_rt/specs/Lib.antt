pub mod Hires
pub mod Kept
pub mod Seen
pub mod Moves

pub mod Objects
pub mod Lanes
pub mod Stores
pub mod Kept
pub mod Batches

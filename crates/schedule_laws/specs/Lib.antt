pub mod Theorem
pub mod Replayed

pub mod Theorem
pub mod Fronts

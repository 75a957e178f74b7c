pub mod Objects
pub mod Outcomes

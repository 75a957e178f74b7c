pub mod Merges
pub mod Machines

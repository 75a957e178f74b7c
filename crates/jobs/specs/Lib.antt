pub mod Jobs
pub mod Launches

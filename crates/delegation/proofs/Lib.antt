pub mod runs
pub mod views
pub mod plains

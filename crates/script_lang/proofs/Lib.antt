pub mod lines
pub mod listings
pub mod schedules
pub mod shown
pub mod spellings

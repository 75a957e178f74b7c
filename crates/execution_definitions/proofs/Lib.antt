pub mod lists
pub mod shapes
pub mod worked
pub mod programs

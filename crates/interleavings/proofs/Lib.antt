pub mod shapes
pub mod programs
pub mod machines
pub mod worked

pub mod pieces
pub mod ascii
pub mod lines
pub mod reading
pub mod places
mod worked

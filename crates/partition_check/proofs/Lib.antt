pub mod represents
pub mod marked
pub mod cells

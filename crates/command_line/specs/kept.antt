pub mod Given
pub mod Rests

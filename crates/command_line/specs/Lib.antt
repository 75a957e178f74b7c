pub mod Numbers
pub mod Pieces
pub mod Options
pub mod CommandLine
pub mod kept

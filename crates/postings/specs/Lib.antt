pub mod Appending
pub mod Numbers
pub mod Spelling
pub mod Stuck

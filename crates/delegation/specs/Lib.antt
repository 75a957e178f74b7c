pub mod Runtimes
pub mod Answers
pub mod Programs
pub mod PlainParts
pub mod Plains

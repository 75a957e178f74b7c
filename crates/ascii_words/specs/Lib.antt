pub mod AsciiWords
pub mod Laws
pub mod Places

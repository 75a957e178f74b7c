pub mod LineWords

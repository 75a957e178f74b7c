-- How does the parser go, step by step? It is what the parser's own functions promise. What a
-- script is stands in `Grammar`, `Commands` and `Listings`.
pub mod Commands
pub mod Epochs
pub mod Parts
pub mod Reading
pub mod Schedule

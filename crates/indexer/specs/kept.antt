-- What a document keeps: its bytes, or its words by number.
pub mod Documents

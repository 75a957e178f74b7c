-- What is a document, and what does it become when it is split under a stop list?
use Rattle.std.specs.Prelude.{ℕ, List}
use Rattle.index_definitions.specs.Words.{Word}
use Rattle.index_definitions.specs.Postings.{counted_words}

-- what contracts see of a document
pub data Content : Type 0 where
  -- its bytes, before it is split
  whole : List ℕ → Content
  -- its counted words, once it is split
  split : List Word → Content

-- it isn't split
abbrev pub IsWhole : Content → Type 0
IsWhole (whole bytes) = Unit {0}
IsWhole (split words) = ⊥

-- a document after a split, where these terms are stopped
abbrev pub split_content : List (List ℕ) → Content → Content
split_content stopped (whole bytes) = split (counted_words stopped bytes)
split_content stopped (split words) = split words

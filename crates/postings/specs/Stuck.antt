-- How far do bytes begin a word of a language in which no word begins another?
use Rattle.std.specs.Prelude.{◌≡◌, ℕ, ◌+◌, ◌<◌, ◌≤◌, List, ◌++◌, length, take}
use Rattle.index_definitions.specs.PostingLists.{DocumentPositions}
use Rattle.postings.specs.Spelling.{SpellsNumber, SpellsPositions, SpellsDocument}

-- a number up to a limit
abbrev pub IsNumberUpTo : ℕ → List ℕ → Type 0
IsNumberUpTo most bytes = (n : ℕ) × (n ≤ most) × SpellsNumber bytes n

-- the positions of one document
abbrev pub ArePositionBytes : List ℕ → Type 0
ArePositionBytes bytes = (ns : List ℕ) × (0 < length ns) × SpellsPositions 0 bytes ns

-- a document above another one
abbrev pub IsDocumentAbove : ℕ → List ℕ → Type 0
IsDocumentAbove before bytes = (e : DocumentPositions) × SpellsDocument before bytes e

-- no word stands in front. Up to the place the bytes begin one, and with the byte there, if there is
-- one, they begin none
pub record AreStuck (IsWord : List ℕ → Type 0) (bytes : List ℕ) (at : ℕ) : Type 0 where
  pub within : at ≤ length bytes
  pub begins : 0 < at → (more : List ℕ) × IsWord (take at bytes ++ more)
  pub ends : at < length bytes → (first rest more : List ℕ)
      → take (at + 1) bytes ++ more ≡ first ++ rest → IsWord first → ⊥
  pub none : (first rest : List ℕ) → bytes ≡ first ++ rest → IsWord first → ⊥

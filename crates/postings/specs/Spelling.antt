-- Which bytes spell a list of postings?
--
-- What is spelt are differences: of a document from the one before it, and of a position from the one
-- before it in the same document. The first of each is its difference from 0. No number is 0, so the
-- byte 00 can end a document.
use Rattle.std.specs.Prelude.{◌≡◌, ℕ, ◌+◌, ◌*◌, ◌-◌, ◌<◌, ◌≤◌, ◌^◌, List, [], ◌∷◌, ◌++◌, length, take}
use Rattle.index_definitions.specs.PostingLists.{DocumentPositions, PostingList}

-- A number from 1 on, in groups of seven bits, the low group first. A byte below 128 is the last, and
-- isn't 0. One from 128 on has a group, and the bytes after it spell the rest.
abbrev pub SpellsNumber : List ℕ → ℕ → Type 0
SpellsNumber [] n = ⊥
SpellsNumber (b ∷ []) n = (0 < b) × (b < 128) × (n ≡ b)
SpellsNumber (b ∷ c ∷ bs) n =
    (128 ≤ b) × (b < 256) × (high : ℕ) × (n + 128 ≡ b + 128 * high) × SpellsNumber (c ∷ bs) high

-- a document or a position above the one before it, by its difference
abbrev pub SpellsNext : ℕ → List ℕ → ℕ → Type 0
SpellsNext before bytes n = (before < n) × (n < 2 ^ 32) × SpellsNumber bytes (n - before)

-- positions that rise above one before them, and the byte 00
abbrev pub SpellsPositions : ℕ → List ℕ → List ℕ → Type 0
SpellsPositions before bytes [] = bytes ≡ 0 ∷ []
SpellsPositions before bytes (n ∷ ns) =
    (first : List ℕ) × (rest : List ℕ) × (bytes ≡ first ++ rest) × SpellsNext before first n
    × SpellsPositions n rest ns

-- a document above the one before it, with its positions, of which there are some
abbrev pub SpellsDocument : ℕ → List ℕ → DocumentPositions → Type 0
SpellsDocument before bytes e =
    (first : List ℕ) × (rest : List ℕ) × (bytes ≡ first ++ rest) × SpellsNext before first e.0
    × (0 < length e.1) × SpellsPositions 0 rest e.1

-- documents that rise above one before them, one after the other
abbrev pub SpellsDocuments : ℕ → List ℕ → PostingList → Type 0
SpellsDocuments before bytes [] = bytes ≡ []
SpellsDocuments before bytes (e ∷ es) =
    (first : List ℕ) × (rest : List ℕ) × (bytes ≡ first ++ rest) × SpellsDocument before first e
    × SpellsDocuments e.0 rest es

-- a list
abbrev pub Spells : List ℕ → PostingList → Type 0
Spells bytes list = SpellsDocuments 0 bytes list

-- some list is spelt by these bytes and more
abbrev pub Begins : List ℕ → Type 0
Begins bytes = (more : List ℕ) × (list : PostingList) × Spells (bytes ++ more) list

-- bytes that spell no list, and the place up to which they begin one: with the byte there, if there
-- is one, they begin none
pub record AreBadAt (bytes : List ℕ) (at : ℕ) : Type 0 where
  pub none : (list : PostingList) → Spells bytes list → ⊥
  pub within : at ≤ length bytes
  pub begins : Begins (take at bytes)
  pub ends : at < length bytes → Begins (take (at + 1) bytes) → ⊥

-- no list has two spellings
abbrev pub NoTwoSpellings : Type 0
NoTwoSpellings =
    (list : PostingList) (first second : List ℕ) → Spells first list → Spells second list
    → first ≡ second

-- no bytes spell two lists
abbrev pub NoTwoLists : Type 0
NoTwoLists =
    (bytes : List ℕ) (first second : PostingList) → Spells bytes first → Spells bytes second
    → first ≡ second

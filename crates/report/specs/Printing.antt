-- How are postings printed pair by pair?
--
-- What stands before a position tells whether its document is the one before it, another, or the
-- first. Documents count from 1, so 0 is the document before the first.
use Rattle.std.specs.Prelude.{ℕ, ◌==◌, if◌then◌else◌, List, [], ◌∷◌, ◌++◌, codes, decimal}

-- nothing before the first document, and `;` before each other
abbrev pub separator : ℕ → List ℕ
separator last = if last == 0 then [] else codes ";"

-- what stands before a position
abbrev pub lead_text : ℕ → ℕ → List ℕ
lead_text last document =
    if document == last then codes "," else separator last ++ decimal document ++ codes ":"

-- pairs of document and position behind those of the document `last`
abbrev pub pairs_text : ℕ → List (ℕ × ℕ) → List ℕ
pairs_text last [] = []
pairs_text last (e ∷ es) = lead_text last e.0 ++ decimal e.1 ++ pairs_text e.0 es

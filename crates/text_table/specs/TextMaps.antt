-- Which finite map do texts with values stand for, and what does it become at one text?
--
-- Entries are texts in the order in which they came, each with its value. No text stands twice.
use Rattle.std.specs.Prelude.{ℕ, zero, suc, List, [], ◌∷◌}
use Rattle.std.specs.Ordering.{nat_cmp}
use Rattle.std.specs.declared.cmp.Ordering.{Ordering}
use Rattle.std.specs.Cmp.Lexicographic.{slice_cmp}
use Rattle.std.specs.FinMap as finite
use Rattle.std.specs.FinMap.{FinMap}

-- the order of texts, by their bytes
abbrev pub text_order : List ℕ → List ℕ → Ordering
text_order = slice_cmp nat_cmp

module _ {V : Type 0} where
  -- the finite map of entries
  abbrev pub map_of : List (List ℕ × V) → FinMap text_order V
  map_of entries = finite.from_entries entries

  -- the entries with another value at a number
  abbrev pub with_value : List (List ℕ × V) → ℕ → V → List (List ℕ × V)
  with_value [] number value = []
  with_value (entry ∷ rest) zero value = (entry.0, value) ∷ rest
  with_value (entry ∷ rest) (suc number) value = entry ∷ with_value rest number value

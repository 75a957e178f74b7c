-- Which number has a text in a list of texts, and what does the list become when a text is added?
--
-- A text is its list of bytes, and a list of texts stands for the numbers of its places.
use Rattle.std.specs.Prelude.{◌≢◌, ℕ, List, [], ◌∷◌, ◌++◌, Option, is_some, if◌then◌else◌, position}
use Rattle.std.specs.List.{AllPairs}
use Rattle.std.specs.Str.{bytes_eq}

-- the place at which a text first stands
unfoldable pub number_of : List (List ℕ) → List ℕ → Option ℕ
number_of texts text = position (bytes_eq text) texts

-- the list with one text more, unless the text stands in it
unfoldable pub with_text : List (List ℕ) → List ℕ → List (List ℕ)
with_text texts text = if is_some (number_of texts text) then texts else texts ++ text ∷ []

-- no text stands twice
abbrev pub AreDistinct : List (List ℕ) → Type 0
AreDistinct texts = AllPairs (λ a b. a ≢ b) texts

-- What do contracts see of a map from texts to counts, and what do two maps come to together?
--
-- A text is its list of bytes, and a key that is absent counts as 0. Counts are sums modulo 2^64.
use Rattle.std.specs.Prelude.{ℕ, List, ◌+◌, ◌%◌, ◌^◌, ◌++◌, map}
use Rattle.std.specs.Option.{unwrap_or}
use Rattle.std.specs.FinMap as finite
use Rattle.std.specs.FinMap.{FinMap}
pub use Rattle.text_table.specs.TextMaps.{text_order}

-- a finite map from texts to counts
abbrev pub Counts : Type 0
Counts = FinMap text_order ℕ

-- the count of a key
abbrev pub count_of : Counts → List ℕ → ℕ
count_of counts key = unwrap_or (finite.get counts key) 0

-- the counts with `by` more at a key
abbrev pub counts_after_add : Counts → List ℕ → ℕ → Counts
counts_after_add counts key by =
    finite.insert counts key ((count_of counts key + by) % (2 ^ 64))

-- the sum of the two counts of a key
abbrev pub sum_of_counts : Counts → Counts → List ℕ → ℕ
sum_of_counts a b key = (count_of a key + count_of b key) % (2 ^ 64)

-- the keys of both maps, each with the sum of its two counts
unfoldable pub counts_join : Counts → Counts → Counts
counts_join a b =
    finite.from_entries
    (map (λ key. (key, sum_of_counts a b key)) (finite.keys a ++ finite.keys b))

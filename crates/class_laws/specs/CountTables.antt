-- Which numbers are counts, and which counts do texts with numbers come to?
use Rattle.std.specs.Prelude.{ℕ, ◌%◌, ◌^◌, ◌<◌, List, map}
use Rattle.std.specs.FinMap as finite
use Rattle.std.specs.List.{All, zip}
use Rattle.class_laws.specs.Counts.{Counts}

-- each number is below 2^64
abbrev pub AreCounts : List (List ℕ × ℕ) → Type 0
AreCounts entries = All (λ entry. entry.1 < 2 ^ 64) entries

-- a number as a count
abbrev pub count_from : ℕ → ℕ
count_from number = number % (2 ^ 64)

-- the counts of texts with their numbers
abbrev pub counts_of : List (List ℕ) → List ℕ → Counts
counts_of texts numbers = finite.from_entries (zip texts (map count_from numbers))

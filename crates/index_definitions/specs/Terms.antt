-- What does a list of terms say, in whatever order they stand, and which list has each of them once?
--
-- The terms, each once and in order, are the keys of the finite map from them. A reader needs no maps:
-- a law says that they are the one list that rises strictly in the order of bytes and has these
-- terms.
use Rattle.std.specs.Prelude.{◌≡◌, ℕ, Bool, List, map, length, max, fold, chars}
use Rattle.std.specs.List.{list_any}
use Rattle.std.specs.List.Sorted.{IsStrictlySortedBy}
use Rattle.std.specs.Ordering.{nat_cmp}
use Rattle.std.specs.Cmp.Lexicographic.{slice_cmp}
use Rattle.std.specs.FinMap.{keys, from_entries}
use Rattle.std.specs.Str.{bytes_eq}

-- one of the terms is this term
abbrev pub has_term : List (List ℕ) → List ℕ → Bool
has_term terms term = list_any (bytes_eq term) terms

-- two lists have the same terms
abbrev pub HaveSameTerms : List (List ℕ) → List (List ℕ) → Type 0
HaveSameTerms terms others = (term : List ℕ) → has_term terms term ≡ has_term others term

-- the most characters of a term, or 0
abbrev pub longest_of : List (List ℕ) → ℕ
longest_of terms = fold (λ longest term. max longest (length (chars term))) 0 terms

-- these terms, each once, in the order of their bytes
abbrev pub rising_terms : List (List ℕ) → List (List ℕ)
rising_terms terms = keys (from_entries {R = slice_cmp nat_cmp} (map (λ t. (t, tt {0})) terms))

-- a list that rises strictly and has these terms is `rising_terms` of them
abbrev pub TermsAreTheOneRisingList : Type 0
TermsAreTheOneRisingList =
    (terms rising : List (List ℕ))
    → IsStrictlySortedBy (slice_cmp nat_cmp) rising → HaveSameTerms rising terms
    → rising ≡ rising_terms terms

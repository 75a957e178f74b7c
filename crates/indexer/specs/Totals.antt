-- What do the counted words of a document come to?
use Rattle.std.specs.Prelude.{ℕ, ◌%◌, ◌^◌, List, map, length}
use Rattle.std.specs.FinMap as finite
use Rattle.class_laws.specs.declared.both.Both.{Both}
use Rattle.class_laws.specs.declared.numbers.WrapSum.{WrapSum}
use Rattle.class_laws.specs.declared.numbers.Max.{Max}
use Rattle.class_laws.specs.Counts.{Counts, counts_join}
use Rattle.class_laws.specs.Numbers.{wrap_sum, wrap_sum_unit, wrap_sum_join}
use Rattle.class_laws.specs.Numbers.{maximum, max_unit, max_join}
use Rattle.class_laws.specs.Pairs.{both_of, both_join}
use Rattle.index_definitions.specs.Words.{Word, word_terms, positions_of}
use Rattle.index_definitions.specs.Terms.{longest_of}
use Rattle.index_definitions.specs.Postings.{counted_words}
use Rattle.indexer.specs.Documents.{Content, whole, split}

-- what is counted: the words, the characters of the longest term, and the words of each term
abbrev pub Totals : Type 0
Totals = Both (Both WrapSum Max) Counts

-- nothing counted
abbrev pub no_totals : Totals
no_totals = both_of (both_of wrap_sum_unit max_unit) finite.empty

-- what two totals come to together
abbrev pub totals_join : Totals → Totals → Totals
totals_join = both_join (both_join wrap_sum_join max_join) counts_join

-- each term with the number of its words, modulo 2^64
abbrev pub counts_in : List Word → Counts
counts_in words =
    finite.from_entries
    (map (λ word. (word.1, length (positions_of word.1 words) % (2 ^ 64))) words)

-- what counted words come to
abbrev pub totals_of : List Word → Totals
totals_of words =
    both_of
    (both_of (wrap_sum (length words % (2 ^ 64))) (maximum (longest_of (word_terms words))))
    (counts_in words)

-- what a split of a document contributes
abbrev pub split_totals : List (List ℕ) → Content → Totals
split_totals stopped (whole bytes) = totals_of (counted_words stopped bytes)
split_totals stopped (split words) = no_totals

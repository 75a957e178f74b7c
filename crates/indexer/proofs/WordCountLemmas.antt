-- How many counted words documents have: fewer than 2^64, for 65,536 documents of 8 MiB each.
use Rattle.std.proofs.Common.{ℕ, ◌*◌, ◌^◌, ◌<◌, ◌≤◌, List, length, map, arith}
use Rattle.std.specs.Prelude.{not, vec_len}
use Rattle.std.specs.declared.vec.Vec.{Vec}
use Rattle.std.specs.List.{All, AllByRecursion, flat_map}
use Rattle.std.proofs.lemmas.List.Concat.{length-flat_map}
use Rattle.std.proofs.lemmas.List.Elements.{All-weaker, All-map, All-from_recursion}
use Rattle.std.proofs.lemmas.List.Sums.{length-filter, count_by-le-length, sum_by-le}
use Rattle.index_definitions.specs.Words.{words_in}
use Rattle.doc_words.proofs.WordCountLemmas.{few_words_in}
use Rattle.index_definitions.specs.Words.{Word}
use Rattle.index_definitions.specs.Terms.{has_term}
use Rattle.index_definitions.specs.Postings.{counted_words}

-- at most 8 MiB each
abbrev pub AreWithin : List (List ℕ) → Type 0
AreWithin documents = All (λ document. length document ≤ 8388608) documents

-- as it is said of their vectors
pub AreWithin-vectors : {Z : Type 0} (docs : List (Vec ℕ Z))
    → AllByRecursion (λ document. vec_len document ≤ 8388608) docs
    → AreWithin (map (λ document. document.items) docs)
AreWithin-vectors docs within =
    All-map (λ document. length document ≤ 8388608) (λ document. document.items) docs
    (All-weaker (λ document. vec_len document ≤ 8388608)
    (λ document. length document.items ≤ 8388608)
    (λ document small. omega (arith, small, document.ok.0)) docs
    (All-from_recursion (λ document. vec_len document ≤ 8388608) docs within))

few_split : (stopped : List (List ℕ)) (document : List ℕ)
    → length (counted_words stopped document) ≤ 3 * length document
few_split stopped document =
    let counted = λ (word : Word). not (has_term stopped word.1) in
    omega (
      arith,
      length-filter counted (words_in document),
      count_by-le-length counted (words_in document),
      few_words_in document,
    )

pub few_words : (stopped documents : List (List ℕ))
    → length documents ≤ 65536 → AreWithin documents
    → length (flat_map (counted_words stopped) documents) < 2 ^ 64
few_words stopped documents count within =
    let each = All-weaker (λ d. length d ≤ 8388608)
    (λ d. length (counted_words stopped d) ≤ 25165824)
    (λ d small. omega (arith, small, few_split stopped d)) documents within in
    let all = sum_by-le (λ d. length (counted_words stopped d)) 25165824 documents each in
    omega (arith, length-flat_map (counted_words stopped) documents, all, count)

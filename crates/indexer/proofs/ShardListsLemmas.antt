-- Lists of which each is of a shard of its own.
use Rattle.std.proofs.Common.{◌≡◌, ◌≢◌, ℕ, suc, ◌+◌, ◌<◌, ◌≤◌, List, [], ◌∷◌, ◌++◌, length, get_or}
use Rattle.std.proofs.Common.{map, refl, ap, ◌∙◌, arith}
use Rattle.std.specs.List.{All, flat_map}
use Rattle.std.proofs.lemmas.List.{map-append}
use Rattle.std.proofs.lemmas.List.Elements.{All-nil, All-append, All-weaker, All-head, All-tail}
use Rattle.std.proofs.lemmas.List.Kept.{AllPairs-cons}
use Rattle.index_definitions.specs.Index.{TermRecord}
use Rattle.index_definitions.specs.Indexes.{texts_of}
use Rattle.text_table.specs.TextTables.{AreDistinct}
use Rattle.document_terms.specs.Shards.{shard_of}

-- what holds in each list holds in all
pub All-flat : {A : Type 0} (P : A → Type 0) (lists : List (List A))
    → ((number : ℕ) → number < length lists → All P (get_or lists number []))
    → All P (flat_map (λ list. list) lists)
All-flat P [] each = All-nil P
All-flat P (l ∷ ls) each =
    All-append P l (flat_map (λ list. list) ls) (each 0 (omega arith))
    (All-flat P ls (λ number within. each (suc number) (omega arith)))

-- of two lists that share no text
AllPairs-append : (xs ys : List (List ℕ)) → AreDistinct xs → AreDistinct ys
    → All (λ x. All (λ y. x ≢ y) ys) xs → AreDistinct (xs ++ ys)
AllPairs-append [] ys first second apart = second
AllPairs-append (x ∷ xs) ys first second apart =
    let differ = λ (a b : List ℕ). a ≢ b in
    AllPairs-cons differ x (xs ++ ys)
    (All-append (differ x) xs ys
    (λ k d within. first 0 (suc k) d (omega arith) (omega arith))
    (All-head (λ a. All (differ a) ys) x xs apart))
    (AllPairs-append xs ys
    (λ i j d order within. first (suc i) (suc j) d (omega arith) (omega arith)) second
    (All-tail (λ a. All (differ a) ys) x xs apart))

-- texts of lists of which each has its own shard, from shard k on
pub record AreApart (k : ℕ) (lists : List (List (List ℕ))) : Type 0 where
  pub distinct : AreDistinct (flat_map (λ list. list) lists)
  pub later : All (λ t. k ≤ shard_of t) (flat_map (λ list. list) lists)

pub apart : (k : ℕ) (lists : List (List (List ℕ)))
    → ((number : ℕ) → number < length lists
    → AreDistinct (get_or lists number [])
    × All (λ t. shard_of t ≡ k + number) (get_or lists number []))
    → AreApart k lists
apart k [] each = record {
  distinct = λ i j d order within. absurd (omega arith);
  later = All-nil (λ t. k ≤ shard_of t);
}
apart k (l ∷ ls) each =
    let first = each 0 (omega arith) in
    let rest = apart (k + 1) ls (λ number within.
    let mine = each (suc number) (omega arith) in (
      mine.0,
      All-weaker (λ t. shard_of t ≡ k + suc number) (λ t. shard_of t ≡ k + 1 + number)
          (λ t is. omega (arith, is)) (get_or ls number []) mine.1,
    )) in
    let texts = flat_map (λ (list : List (List ℕ)). list) ls in
    record {
      distinct = AllPairs-append l texts first.0 rest.distinct
          (All-weaker (λ t. shard_of t ≡ k + 0) (λ t. All (λ u. t ≢ u) texts)
          (λ t is. All-weaker (λ u. k + 1 ≤ shard_of u) (λ u. t ≢ u)
          (λ u above same. absurd (omega (arith, is, above, ap shard_of same))) texts rest.later)
          l first.1);
      later = All-append (λ t. k ≤ shard_of t) l texts
          (All-weaker (λ t. shard_of t ≡ k + 0) (λ t. k ≤ shard_of t)
          (λ t is. omega (arith, is)) l first.1)
          (All-weaker (λ t. k + 1 ≤ shard_of t) (λ t. k ≤ shard_of t)
          (λ t above. omega (arith, above)) texts rest.later);
    }

-- the texts of all lists are all texts of the lists
pub texts_of-flat : (lists : List (List TermRecord))
    → texts_of (flat_map (λ list. list) lists) ≡ flat_map (λ list. list) (map texts_of lists)
texts_of-flat [] = refl
texts_of-flat (l ∷ ls) =
    map-append (λ (r : TermRecord). r.text) l (flat_map (λ list. list) ls)
    ∙ ap (λ ts. texts_of l ++ ts) (texts_of-flat ls)

-- The terms of shards, as they are sorted and counted.
use Rattle.std.proofs.Common.{◌≡◌, ◌≢◌, ℕ, ◌+◌, ◌<◌, List, [], ◌∷◌, length, true, false, map, refl}
use Rattle.std.proofs.Common.{ap, ap₂, ◌∙◌, arith}
use Rattle.std.specs.declared.cmp.Ordering.TheVariants.{Less, Equal, Greater}
use Rattle.std.specs.List.Sorted.{IsPermutation, IsSortedBy, IsStrictlySortedBy}
use Rattle.std.specs.Ordering.{is_lt, is_eq, ordering_reverse}
use Rattle.std.specs.Str.{bytes_eq}
use Rattle.std.proofs.lemmas.List.{get_or-map, length-map}
use Rattle.std.proofs.lemmas.List.Sorted.{IsPermutation-map, list_any-IsPermutation}
use Rattle.std.proofs.lemmas.Map.Keys.{sorted_from_all_adjacent, IsDistinct-IsPermutation}
use Rattle.std.proofs.lemmas.Map.Made.{AllPairs-from_IsDistinct, IsDistinct-from_AllPairs}
use Rattle.std.proofs.lemmas.Map.Views.{tells_apart}
use Rattle.std.proofs.lemmas.Cmp.{nat_list_eq_equiv}
use Rattle.std.proofs.lemmas.Slice.Eq.{bytes_eq-Decides}
use Rattle.index_definitions.specs.Terms.{has_term}
use Rattle.index_definitions.specs.Index.{TermRecord}
use Rattle.index_definitions.specs.Indexes.{texts_of}
use Rattle.text_table.specs.TextTables.{AreDistinct}
use Rattle.class_laws.specs.Counts.{Counts, text_order}
use Rattle.class_laws.specs.Laws.Counts.{text_order_total, text_order_exact}
use Rattle.indexer.specs.Collected.{with_count}

abbrev no_record : TermRecord
no_record = record { text = []; total = 0; postings = [] }

-- ---- sorted terms

not_below :
    (a b : List ℕ) → is_lt (text_order b a) ≡ false → a ≢ b → text_order a b ≡ Less
not_below a b least other =
    let turned = text_order_total.antisymm b a in
    elim (text_order a b) as (λ o. text_order a b ≡ o → o ≡ Less) [
      | Less ↦ λ _. refl
      | Equal ↦ λ same. absurd (other (tells_apart text_order_exact a b (ap is_eq same)))
      | Greater ↦ λ more.
          let below : is_lt (text_order b a) ≡ true =
          ap is_lt (turned ∙ ap ordering_reverse more) in
          cc
    ] refl

-- distinct texts that don't fall rise
pub texts_rise :
    (rs : List TermRecord)
    → IsSortedBy (λ x y. is_lt (text_order x.text y.text)) rs
    → AreDistinct (texts_of rs) → IsStrictlySortedBy text_order (texts_of rs)
texts_rise rs sorted distinct =
    let text = λ (r : TermRecord). r.text in
    let none = no_record in
    sorted_from_all_adjacent text_order_total (texts_of rs) [] (λ k within.
    let inside : k + 1 < length rs = omega (arith, length-map rs text) in
    let this = get_or-map text rs k none [] (omega arith) in
    let next = get_or-map text rs (k + 1) none [] inside in
    let differ = distinct k (k + 1) [] (omega arith) within in
    let least = sorted k none (omega arith) inside in
    not_below _ _
    (ap₂ (λ t u. is_lt (text_order u t)) this next ∙ least) differ)

-- in another order texts are as distinct
pub AreDistinct-permutation :
    (ts us : List (List ℕ)) → IsPermutation ts us → AreDistinct ts → AreDistinct us
AreDistinct-permutation ts us moved distinct =
    AllPairs-from_IsDistinct bytes_eq-Decides us
    (IsDistinct-IsPermutation bytes_eq nat_list_eq_equiv.symm ts us moved
    (IsDistinct-from_AllPairs bytes_eq-Decides ts distinct))

pub texts_of-permutation :
    (rs ss : List TermRecord) → IsPermutation rs ss → IsPermutation (texts_of rs) (texts_of ss)
texts_of-permutation rs ss moved = IsPermutation-map (λ (r : TermRecord). r.text) rs ss moved

-- in another order they are the same terms
pub has_term-permutation :
    (rs ss : List TermRecord) (q : List ℕ)
    → IsPermutation rs ss → has_term (texts_of rs) q ≡ has_term (texts_of ss) q
has_term-permutation rs ss q moved =
    list_any-IsPermutation (bytes_eq q) (texts_of rs) (texts_of ss)
    (texts_of-permutation rs ss moved)

-- ---- counted terms

-- counts leave texts as they are
pub texts_of-with_count :
    (counts : Counts) (rs : List TermRecord)
    → texts_of (map (with_count counts) rs) ≡ texts_of rs
texts_of-with_count counts [] = refl
texts_of-with_count counts (r ∷ rs) = ap (λ ts. r.text ∷ ts) (texts_of-with_count counts rs)

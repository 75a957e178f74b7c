-- Lists with the same terms: they have one list of rising terms, and one longest term.
--
-- A strictly rising list and `rising_terms` are read as finite maps to the one-element type. Two
-- finite maps that find the same at each key are one map, and the keys of a map in order are one
-- list.
use Rattle.std.proofs.Common.{◌≡◌, ℕ, ◌≤◌, Bool, true, false, cond, List, [], ◌∷◌, map, Some, None}
use Rattle.std.proofs.Common.{refl, sym, ap, ◌∙◌, subst, T, length, chars, get_or, arith, max, ◌++◌}
use Rattle.std.specs.Prelude.{◌&&◌, ◌||◌, is_some}
use Rattle.std.specs.declared.cmp.Ordering.{Ordering}
use Rattle.std.specs.declared.cmp.Ordering.TheVariants.{Less, Equal, Greater}
use Rattle.std.specs.List.{AllByRecursion}
use Rattle.std.specs.List.Sorted.{IsStrictlySortedBy}
use Rattle.std.specs.Ordering.{nat_cmp, is_lt}
use Rattle.std.specs.Cmp.Lexicographic.{slice_cmp, nat_list_cmp_total}
use Rattle.std.specs.FinMap.{keys, entries, find, is_sorted, from_sorted, from_entries, same_map}
use Rattle.std.specs.FinMap.{entries_sorted, get-entries}
use Rattle.std.specs.FinMap.{get-from_sorted, get-from_entries, entries-from_sorted}
use Rattle.std.specs.FinMap.{slice_cmp-IsAntisymmetric, nat_cmp-IsAntisymmetric}
use Rattle.std.specs.FinMap.Entries.{below_all}
use Rattle.std.specs.Str.{bytes_eq}
use Rattle.std.proofs.lemmas.Map.Text.{is_eq-slice_cmp}
use Rattle.std.proofs.lemmas.List.Folds.{list_any_at}
use Rattle.std.proofs.lemmas.List.Sums.{fold-append}
use Rattle.std.proofs.lemmas.Slice.Eq.{bytes_eq-Decides}
use Rattle.index_definitions.specs.Terms.{has_term, HaveSameTerms, longest_of, rising_terms}
use Rattle.index_definitions.proofs.OptionsLemmas.{is_some-cond}
use Rattle.index_definitions.proofs.GreatestLemmas.{greatest, greatest-le, le-greatest, greatest-max}

both_true : (a b : Bool) → T a → T b → T (a && b)
both_true true true p q = tt
both_true true false p q = absurd q
both_true false b p q = absurd p

abbrev text_cmp : List ℕ → List ℕ → Ordering
text_cmp = slice_cmp nat_cmp

-- a term as an entry of a map
abbrev entry_of : List ℕ → List ℕ × Unit {0}
entry_of term = (term, tt)

below_all-entries :
    (t : List ℕ) (ts : List (List ℕ))
    → AllByRecursion (λ u. text_cmp t u ≡ Less) ts → T (below_all text_cmp t (map entry_of ts))
below_all-entries t [] below = tt
below_all-entries t (u ∷ ts) below =
    both_true _ _ (subst (λ o. T (is_lt o)) (sym below.0) tt) (below_all-entries t ts below.1)

is_sorted-entries :
    (ts : List (List ℕ)) → IsStrictlySortedBy text_cmp ts → T (is_sorted text_cmp (map entry_of ts))
unfolding IsStrictlySortedBy
is_sorted-entries [] rising = tt
is_sorted-entries (t ∷ ts) rising =
    both_true _ _ (below_all-entries t ts rising.0) (is_sorted-entries ts rising.1)

-- a term is found exactly where it is one of the entries
find-any :
    (q : List ℕ) (ts : List (List ℕ))
    → find text_cmp q (map entry_of ts) ≡ cond (has_term ts q) (Some (tt {0})) None
find-any q [] = refl
find-any q (t ∷ ts) =
    ap (λ b. cond b (Some tt) (find text_cmp q (map entry_of ts))) (is_eq-slice_cmp q t)
    ∙ elim (bytes_eq q t) as (λ b.
    cond b (Some (tt {0})) (find text_cmp q (map entry_of ts))
    ≡ cond (b || has_term ts q) (Some (tt {0})) None)
    [ true ↦ refl | false ↦ find-any q ts ]

keys-entries : (ts : List (List ℕ)) → map (λ e. e.0) (map entry_of ts) ≡ ts
keys-entries [] = refl
keys-entries (t ∷ ts) = ap (λ us. t ∷ us) (keys-entries ts)

-- a list that rises and has the terms of another is those terms, each once
pub rising_terms-unique :
    (all ts : List (List ℕ))
    → IsStrictlySortedBy text_cmp ts → HaveSameTerms ts all → ts ≡ rising_terms all
rising_terms-unique all ts rising members =
    let order = is_sorted-entries ts rising in
    let same :
    from_sorted {R = text_cmp} (map entry_of ts) ≡ from_entries {R = text_cmp} (map entry_of all) =
    same_map nat_list_cmp_total (slice_cmp-IsAntisymmetric nat_cmp-IsAntisymmetric) _ _ (λ q.
    get-from_sorted text_cmp (map entry_of ts) q order ∙ find-any q ts
    ∙ ap (λ b. cond b (Some (tt {0})) None) (members q)
    ∙ sym (get-from_entries nat_list_cmp_total (map entry_of all) q ∙ find-any q all)) in
    sym (keys-entries ts)
    ∙ ap (map (λ e. e.0)) (sym (entries-from_sorted text_cmp (map entry_of ts) order)) ∙ ap keys same

-- ---- the terms, each once and in order

first_true : (a b : Bool) → T (a && b) → T a
first_true true b both = tt
first_true false b both = both

second_true : (a b : Bool) → T (a && b) → T b
second_true true b both = both
second_true false b both = absurd both

less : (o : Ordering) → T (is_lt o) → o ≡ Less
less Less is = refl
less Equal is = absurd is
less Greater is = absurd is

below-all :
    (t : List ℕ) (es : List (List ℕ × Unit {0})) → T (below_all text_cmp t es)
    → AllByRecursion (λ u. text_cmp t u ≡ Less) (map (λ e. e.0) es)
below-all t [] below = tt
below-all t (e ∷ es) below =
    (less (text_cmp t e.0) (first_true _ _ below), below-all t es (second_true _ _ below))

keys-rise :
    (es : List (List ℕ × Unit {0})) → T (is_sorted text_cmp es)
    → IsStrictlySortedBy text_cmp (map (λ e. e.0) es)
unfolding IsStrictlySortedBy
keys-rise [] sorted = tt
keys-rise (e ∷ es) sorted =
    (below-all e.0 es (first_true _ _ sorted), keys-rise es (second_true _ _ sorted))

pub rising_terms-rise : (ts : List (List ℕ)) → IsStrictlySortedBy text_cmp (rising_terms ts)
rising_terms-rise ts =
    let made = from_entries {R = text_cmp} (map entry_of ts) in
    keys-rise (entries made) (entries_sorted made)

find-key :
    (q : List ℕ) (es : List (List ℕ × Unit {0}))
    → is_some (find text_cmp q es) ≡ has_term (map (λ e. e.0) es) q
find-key q [] = refl
find-key q (e ∷ es) =
    ap (λ b. is_some (cond b (Some e.1) (find text_cmp q es))) (is_eq-slice_cmp q e.0)
    ∙ elim (bytes_eq q e.0) as (λ b.
    is_some (cond b (Some e.1) (find text_cmp q es)) ≡ (b || has_term (map (λ f. f.0) es) q))
    [ true ↦ refl | false ↦ find-key q es ]

pub HaveSameTerms-rising : (ts : List (List ℕ)) → HaveSameTerms (rising_terms ts) ts
HaveSameTerms-rising ts q =
    let made = from_entries {R = text_cmp} (map entry_of ts) in
    sym (ap is_some (get-entries made q) ∙ find-key q (entries made))
    ∙ ap is_some (get-from_entries nat_list_cmp_total (map entry_of ts) q ∙ find-any q ts)
    ∙ is_some-cond (has_term ts q) tt

-- ---- the longest term

-- the characters of a term
abbrev pub characters : List ℕ → ℕ
characters t = length (chars t)

same_characters : (t u : List ℕ) → bytes_eq t u ≡ true → characters t ≤ characters u
same_characters t u same =
    let is = ap characters ((bytes_eq-Decides t u).0 same) in omega (arith, is)

-- no term is longer than the longest of as many or more terms
longest_of-within : (ts us : List (List ℕ)) → HaveSameTerms ts us → longest_of ts ≤ longest_of us
longest_of-within ts us same =
    greatest-le characters 0 (longest_of us) ts (omega arith) (λ i d below.
    let t = get_or ts i d in
    let itself = list_any_at (bytes_eq t) ts i d below ((bytes_eq-Decides t t).1 refl) in
    le-greatest characters (bytes_eq t) (characters t) 0 us (λ u equal. same_characters t u equal)
    (sym (same t) ∙ itself))

pub longest_of-same :
    (ts us : List (List ℕ)) → HaveSameTerms ts us → longest_of ts ≡ longest_of us
longest_of-same ts us same =
    let one = longest_of-within ts us same in
    let other = longest_of-within us ts (λ q. sym (same q)) in
    omega (arith, one, other)

-- that of two lists is the longer of both
pub longest_of-append :
    (ts us : List (List ℕ)) → max (longest_of ts) (longest_of us) ≡ longest_of (ts ++ us)
longest_of-append ts us =
    let turned : max (longest_of ts) (longest_of us) ≡ max (longest_of us) (longest_of ts) =
    omega arith in
    let from_none : max 0 (longest_of ts) ≡ longest_of ts = omega arith in
    turned
    ∙ sym (greatest-max characters 0 (longest_of ts) us)
    ∙ ap (λ m. greatest characters m us) from_none
    ∙ sym (fold-append (λ n t. max n (characters t)) 0 ts us)

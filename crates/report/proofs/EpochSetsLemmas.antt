-- The epochs and sets of runs, each once and rising.
--
-- A strictly rising list and `epoch_sets` are read as finite maps to the one-element type. Two finite
-- maps that find the same at each key are one map, and the keys of a map in order are one list.
use Rattle.std.proofs.Common.{◌≡◌, ◌+◌, ◌<◌, Bool, true, false, cond, List, [], ◌∷◌, map, Some, None}
use Rattle.std.proofs.Common.{refl, sym, ap, ap₂, ◌∙◌, subst, T}
use Rattle.std.specs.Prelude.{◌&&◌, ◌||◌, ◌==◌}
use Rattle.std.specs.declared.cmp.Ordering.{Ordering}
use Rattle.std.specs.declared.cmp.Ordering.TheVariants.{Less, Equal, Greater}
use Rattle.std.specs.List.{AllByRecursion, list_any, dedup_from}
use Rattle.std.specs.List.Sorted.{IsStrictlySortedBy, IsSorted, IsSortedByKey}
use Rattle.std.specs.Ordering.{nat_cmp, is_eq, is_lt, eq_by_cmp, ordering_then}
use Rattle.std.specs.Cmp.{IsTotalOrder, nat_cmp_total, unsigned_ties, eq_by_cmp_equiv, on_total, then_total}
use Rattle.std.specs.FinMap.{keys, find, is_sorted, from_sorted, from_entries, same_map}
use Rattle.std.specs.FinMap.{IsAntisymmetric, get-from_sorted, get-from_entries, entries-from_sorted}
use Rattle.std.specs.FinMap.Entries.{below_all}
use Rattle.std.proofs.lemmas.Bool.{eqb-true, false≢true}
use Rattle.std.proofs.lemmas.List.{length-map}
use Rattle.std.proofs.lemmas.List.Kept.{IsStrictlySortedBy-dedup}
use Rattle.std.proofs.Math.ListN.{get_or-map}
use Rattle.ss_base.specs.declared.ids.Run.{Run}
use Rattle.execution_definitions.specs.Runs.{is_of_set}
use Rattle.report.specs.Traces.{EpochSet, epoch_set, epoch_set_cmp, epoch_sets}
use Rattle.report.specs.TraceLaws.{is_same, is_among, AreThoseOf}

-- ---- their order, and the test that they are the same

left_true : (a b : Bool) → (a && b) ≡ true → a ≡ true
left_true true b both = refl
left_true false b both = both

right_true : (a b : Bool) → (a && b) ≡ true → b ≡ true
right_true true b both = both
right_true false b both = absurd (false≢true both)

pub same-is : (one other : EpochSet) → is_same one other ≡ true → one ≡ other
same-is one other same =
    let epoch : one.0 ≡ other.0 = eqb-true one.0 other.0 (left_true _ _ same) in
    let set : one.1 ≡ other.1 =
    eqb-true one.1 other.1 (right_true (one.0 == other.0) (one.1 == other.1) same) in
    λ i. (epoch i, set i)

pub epoch_set_cmp-total : IsTotalOrder epoch_set_cmp
epoch_set_cmp-total =
    then_total (on_total (λ (at : EpochSet). at.0) nat_cmp_total)
    (on_total (λ (at : EpochSet). at.1) nat_cmp_total)

tie-then : (first second : Ordering) → is_eq (ordering_then first second) ≡ (is_eq first && is_eq second)
tie-then Less second = refl
tie-then Equal second = refl
tie-then Greater second = refl

pub same-ties : (one other : EpochSet) → is_same one other ≡ eq_by_cmp epoch_set_cmp one other
same-ties one other =
    ap₂ (λ a b. a && b) (unsigned_ties one.0 other.0) (unsigned_ties one.1 other.1)
    ∙ sym (tie-then (nat_cmp one.0 other.0) (nat_cmp one.1 other.1))

pub same-flip : (one other : EpochSet) → is_same one other ≡ is_same other one
same-flip one other =
    same-ties one other ∙ (eq_by_cmp_equiv epoch_set_cmp-total).symm one other
    ∙ sym (same-ties other one)

epoch_set_cmp-antisymmetric : IsAntisymmetric epoch_set_cmp
epoch_set_cmp-antisymmetric one other is = same-is one other (same-ties one other ∙ ap is_eq is)

-- ---- a rising list and its map

both_true : (a b : Bool) → T a → T b → T (a && b)
both_true true true p q = tt
both_true true false p q = absurd q
both_true false b p q = absurd p

-- an epoch and a set as an entry of a map
abbrev entry_of : EpochSet → EpochSet × Unit {0}
entry_of at = (at, tt)

below_all-entries :
    (at : EpochSet) (ats : List EpochSet)
    → AllByRecursion (λ other. epoch_set_cmp at other ≡ Less) ats
    → T (below_all epoch_set_cmp at (map entry_of ats))
below_all-entries at [] below = tt
below_all-entries at (other ∷ ats) below =
    both_true _ _ (subst (λ o. T (is_lt o)) (sym below.0) tt) (below_all-entries at ats below.1)

is_sorted-entries :
    (ats : List EpochSet) → IsStrictlySortedBy epoch_set_cmp ats
    → T (is_sorted epoch_set_cmp (map entry_of ats))
unfolding IsStrictlySortedBy
is_sorted-entries [] rising = tt
is_sorted-entries (at ∷ ats) rising =
    both_true _ _ (below_all-entries at ats rising.0) (is_sorted-entries ats rising.1)

-- an epoch and a set are found exactly where some element has them
find-any :
    {X : Type 0} (f : X → EpochSet) (at : EpochSet) (xs : List X)
    → find epoch_set_cmp at (map (λ x. (f x, tt {0})) xs)
    ≡ cond (list_any (λ x. is_same (f x) at) xs) (Some (tt {0})) None
find-any f at [] = refl
find-any f at (x ∷ xs) =
    ap (λ b. cond b (Some tt) (find epoch_set_cmp at (map (λ y. (f y, tt {0})) xs)))
    (sym (same-ties at (f x)) ∙ same-flip at (f x))
    ∙ elim (is_same (f x) at) as (λ b.
    cond b (Some (tt {0})) (find epoch_set_cmp at (map (λ y. (f y, tt {0})) xs))
    ≡ cond (b || list_any (λ y. is_same (f y) at) xs) (Some (tt {0})) None)
    [ true ↦ refl | false ↦ find-any f at xs ]

keys-entries : (ats : List EpochSet) → map (λ e. e.0) (map entry_of ats) ≡ ats
keys-entries [] = refl
keys-entries (at ∷ ats) = ap (λ others. at ∷ others) (keys-entries ats)

-- a list that rises and has the epochs and sets of runs is all of them, each once
pub epoch_sets-unique :
    (runs : List Run) (ats : List EpochSet)
    → IsStrictlySortedBy epoch_set_cmp ats → AreThoseOf ats runs → ats ≡ epoch_sets runs
epoch_sets-unique runs ats rising those =
    let order = is_sorted-entries ats rising in
    let listed : List (EpochSet × Unit {0}) = map (λ (run : Run). (epoch_set run, tt {0})) runs in
    let same :
    from_sorted {R = epoch_set_cmp} (map entry_of ats) ≡ from_entries {R = epoch_set_cmp} listed =
    same_map epoch_set_cmp-total epoch_set_cmp-antisymmetric _ _ (λ at.
    get-from_sorted epoch_set_cmp (map entry_of ats) at order ∙ find-any (λ one. one) at ats
    ∙ ap (λ b. cond b (Some (tt {0})) None) (those at)
    ∙ sym (get-from_entries epoch_set_cmp-total listed at ∙ find-any epoch_set at runs)) in
    sym (keys-entries ats)
    ∙ ap (map (λ e. e.0)) (sym (entries-from_sorted epoch_set_cmp (map entry_of ats) order))
    ∙ ap keys same

-- where runs have the epochs and sets of others, those are the same
pub epoch_sets-same :
    (runs other : List Run)
    → ((at : EpochSet) → list_any (is_of_set at.0 at.1) runs ≡ list_any (is_of_set at.0 at.1) other)
    → epoch_sets runs ≡ epoch_sets other
epoch_sets-same runs other same =
    let listed : List Run → List (EpochSet × Unit {0}) = map (λ (run : Run). (epoch_set run, tt {0})) in
    let one : from_entries {R = epoch_set_cmp} (listed runs)
    ≡ from_entries {R = epoch_set_cmp} (listed other) =
    same_map epoch_set_cmp-total epoch_set_cmp-antisymmetric _ _ (λ at.
    get-from_entries epoch_set_cmp-total (listed runs) at ∙ find-any epoch_set at runs
    ∙ ap (λ b. cond b (Some (tt {0})) None) (same at)
    ∙ sym (get-from_entries epoch_set_cmp-total (listed other) at
    ∙ find-any epoch_set at other)) in
    ap keys one

-- ---- those of runs that stand in order, without those that repeat the one before

-- those behind the first of a list without repetitions
abbrev pub others : EpochSet → List EpochSet → List EpochSet
others last [] = []
others last (at ∷ ats) = cond (is_same at last) (others last ats) (at ∷ others at ats)

dedup_from-others :
    (last : EpochSet) (ats : List EpochSet)
    → dedup_from is_same last ats ≡ last ∷ others last ats
dedup_from-others last [] = refl
dedup_from-others last (at ∷ ats) =
    elim (is_same at last) as (λ b.
    cond b (dedup_from is_same last ats) (last ∷ dedup_from is_same at ats)
    ≡ last ∷ cond b (others last ats) (at ∷ others at ats)) [
      | true ↦ dedup_from-others last ats
      | false ↦ ap (λ rest. last ∷ rest) (dedup_from-others at ats)
    ]

absorbed : (a b c : Bool) → b ≡ a → (a || c) ≡ (a || (b || c))
absorbed true b c same = refl
absorbed false b c same = ap (λ d. d || c) (sym same)

-- nothing is lost
pub is_among-others :
    (at last : EpochSet) (ats : List EpochSet)
    → is_among (last ∷ others last ats) at ≡ is_among (last ∷ ats) at
is_among-others at last [] = refl
is_among-others at last (next ∷ ats) =
    elim (is_same next last) as (λ b. is_same next last ≡ b →
    (is_same last at || is_among (cond b (others last ats) (next ∷ others next ats)) at)
    ≡ (is_same last at || (is_same next at || is_among ats at))) [
      | true ↦ λ same. is_among-others at last ats
          ∙ absorbed (is_same last at) (is_same next at) (is_among ats at)
          (ap (λ one. is_same one at) (same-is next last same))
      | false ↦ λ apart. ap (λ b. is_same last at || b) (is_among-others at next ats)
    ] refl

-- a run of an epoch and a set
abbrev pub run_at : EpochSet → Run
run_at at = record {
  call = record { 0 = 0 };
  epoch = at.0;
  set = record { 0 = at.1 };
  object = record { 0 = 0 };
}

sorted-epoch_sets :
    (runs : List Run) → IsSortedByKey epoch_set epoch_set_cmp runs
    → IsSorted epoch_set_cmp (map epoch_set runs)
sorted-epoch_sets runs sorted k at low high =
    ap₂ (λ one other. is_lt (epoch_set_cmp one other))
    (get_or-map epoch_set runs (k + 1) (run_at at)) (get_or-map epoch_set runs k (run_at at))
    ∙ sorted k (run_at at) low (subst (λ n. k + 1 < n) (length-map runs epoch_set) high)

-- those of runs in order rise
pub rise :
    (first : Run) (runs : List Run) → IsSortedByKey epoch_set epoch_set_cmp (first ∷ runs)
    → IsStrictlySortedBy epoch_set_cmp (epoch_set first ∷ others (epoch_set first) (map epoch_set runs))
rise first runs sorted =
    subst (IsStrictlySortedBy epoch_set_cmp)
    (dedup_from-others (epoch_set first) (map epoch_set runs))
    (IsStrictlySortedBy-dedup epoch_set_cmp-total same-ties (map epoch_set (first ∷ runs))
    (sorted-epoch_sets (first ∷ runs) sorted))

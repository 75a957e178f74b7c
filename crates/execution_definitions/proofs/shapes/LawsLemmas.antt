-- The laws of open epochs and of first breaks.
use Rattle.std.proofs.Common.{◌≡◌, ◌<◌, ◌↔◌, ⊎_elim, ℕ, zero, suc, ◌+◌, Bool, true, false, ◌||◌, Option, Some, None, List, [], ◌∷◌, ◌++◌, length, take, fold, refl, sym, ap, ◌∙◌, subst, arith, append-nil, append_assoc}
use Rattle.std.specs.Prelude.{IsSome, slice_get, option_and_then, if◌then◌else◌}
use Rattle.std.specs.List.{list_any}
use Rattle.std.proofs.Math.Bool.{or-true}
use Rattle.std.proofs.lemmas.Bool.{cases_order}
use Rattle.std.proofs.lemmas.Option.{same_Some}
use Rattle.std.proofs.lemmas.List.{length-append}
use Rattle.std.proofs.lemmas.List.Sums.{fold-append}
use Rattle.std.proofs.lemmas.List.Folds.{list_any-append}
use Rattle.execution_definitions.specs.declared.refusal.Refusal.{Refusal}
use Rattle.execution_definitions.specs.Shapes.{Shape, make, make_fixed, begin, delegate, write, get, end, total, is_begin, is_end}
use Rattle.execution_definitions.specs.Epochs.{since_step, since, isolating}
use Rattle.execution_definitions.specs.Refusals.{breaks}
use Rattle.execution_definitions.specs.Soundness.{refusal_at, first_break, first_break_after, place_or}
use Rattle.execution_definitions.specs.Laws.{HasOpenBegin, EpochIsOpenFromItsBegin, IsLeastBreak, FirstBreakIsLeast}

-- ---- an epoch is open

-- the calls behind the last that passes are the end of the list, and none of them passes
pub record IsSplit (test : Shape → Bool) (calls recent : List Shape) : Type 0 where
  pub front : List Shape
  pub is : calls ≡ front ++ recent
  pub none : list_any test recent ≡ false

pub since_splits : (test : Shape → Bool) (calls front recent : List Shape) →
    list_any test recent ≡ false →
    IsSplit test (front ++ recent ++ calls) (fold (since_step test) recent calls)
since_splits test [] front recent none =
    record { front = front; is = rw append-nil refl; none = none }
since_splits test (call ∷ calls) front recent none =
    by_test (test call) refl (since_splits test calls) where
      by_test : (passes : Bool) → test call ≡ passes →
          ((front recent : List Shape) → list_any test recent ≡ false →
          IsSplit test (front ++ recent ++ calls) (fold (since_step test) recent calls)) →
          IsSplit test (front ++ recent ++ call ∷ calls)
          (fold (since_step test) (if passes then [] else (recent ++ call ∷ [])) calls)
      by_test true is splits =
          subst (λ list. IsSplit test list (fold (since_step test) [] calls))
          (ap (λ list. list ++ calls) (append-nil (front ++ recent ++ call ∷ []))
          ∙ append_assoc (front ++ recent) (call ∷ []) calls)
          (splits (front ++ recent ++ call ∷ []) [] refl)
      by_test false is splits =
          subst (λ list. IsSplit test list (fold (since_step test) (recent ++ call ∷ []) calls))
          (ap (λ list. list ++ calls) (sym (append_assoc front recent (call ∷ [])))
          ∙ append_assoc (front ++ recent) (call ∷ []) calls)
          (splits front (recent ++ call ∷ []) (rw (list_any-append, none, is) refl))

-- where none passes all are behind the last that does
pub since_none : (test : Shape → Bool) (calls recent : List Shape) → list_any test calls ≡ false →
    fold (since_step test) recent calls ≡ recent ++ calls
since_none test [] recent none = rw append-nil refl
since_none test (call ∷ calls) recent none =
    by_test (test call) none (since_none test calls (recent ++ call ∷ [])) where
      by_test : (passes : Bool) → (passes || list_any test calls) ≡ false →
          (list_any test calls ≡ false →
          fold (since_step test) (recent ++ call ∷ []) calls ≡ (recent ++ call ∷ []) ++ calls) →
          fold (since_step test) (if passes then [] else (recent ++ call ∷ [])) calls
          ≡ recent ++ call ∷ calls
      by_test true none rest = absurd cc
      by_test false none rest = rest none ∙ append_assoc recent (call ∷ []) calls

pub begin_if : (call : Shape) → is_begin call ≡ true → call ≡ begin
begin_if begin is = refl
begin_if (make by) is = absurd cc
begin_if make_fixed is = absurd cc
begin_if (delegate object own reading) is = absurd cc
begin_if (write object) is = absurd cc
begin_if (get object) is = absurd cc
begin_if end is = absurd cc
begin_if total is = absurd cc

-- a begin among calls that don't end
begin_among : (calls : List Shape) → list_any is_begin calls ≡ true →
    list_any is_end calls ≡ false → HasOpenBegin calls
begin_among [] some none = absurd cc
begin_among (call ∷ calls) some none =
    by_tests (is_begin call) (is_end call) refl some none (begin_among calls) where
      by_tests : (begins ends : Bool) → is_begin call ≡ begins →
          (begins || list_any is_begin calls) ≡ true → (ends || list_any is_end calls) ≡ false →
          (list_any is_begin calls ≡ true → list_any is_end calls ≡ false →
          HasOpenBegin calls) →
          HasOpenBegin (call ∷ calls)
      by_tests begins true is some none rest = absurd cc
      by_tests true false is some none rest = record {
        front = [];
        rest = calls;
        is = ap (λ first. first ∷ calls) (begin_if call is);
        no_end = none;
      }
      by_tests false false is some none rest =
          let later = rest some none in record {
            front = call ∷ later.front;
            rest = later.rest;
            is = ap (λ list. call ∷ list) later.is;
            no_end = later.no_end;
          }

open_then : (calls : List Shape) → isolating calls ≡ true → HasOpenBegin calls
open_then calls opened =
    let split = since_splits is_end calls [] [] refl in
    let has = begin_among (since is_end calls) opened split.none in
    record {
      front = split.front ++ has.front;
      rest = has.rest;
      is = split.is ∙ ap (λ list. split.front ++ list) has.is
          ∙ sym (append_assoc split.front has.front (begin ∷ has.rest));
      no_end = has.no_end;
    }

open_if : (calls : List Shape) → HasOpenBegin calls → isolating calls ≡ true
open_if calls has =
    let before = since is_end has.front in
    rw (
      has.is,
      fold-append (since_step is_end) [] has.front (begin ∷ has.rest),
      since_none is_end has.rest (before ++ begin ∷ []) has.no_end,
      append_assoc before (begin ∷ []) has.rest,
      list_any-append,
    ) (or-true (list_any is_begin before))

pub epoch_is_open : EpochIsOpenFromItsBegin
epoch_is_open calls = (open_then calls, open_if calls)

-- ---- the first break

-- the refusal of the call at a place of a list that follows these calls
abbrev refusal_after : List Shape → List Shape → ℕ → Option Refusal
refusal_after before calls place =
    option_and_then (breaks (before ++ take place calls)) (slice_get calls place)

-- the first break of such a list is its least place that is refused
record IsFirst (before calls : List Shape) (found : ℕ) : Type 0 where
  place : ℕ
  is : found ≡ length before + place
  refused : IsSome (refusal_after before calls place)
  least : (earlier : ℕ) → earlier < place → refusal_after before calls earlier ≡ None

abbrev IsFirstOrNone : List Shape → List Shape → Option ℕ → Type 0
IsFirstOrNone before calls None = (place : ℕ) → refusal_after before calls place ≡ None
IsFirstOrNone before calls (Some found) = IsFirst before calls found

module _ (before : List Shape) (first : Shape) (rest : List Shape) where
  -- a place of the rest
  refusal_after-rest : (place : ℕ) →
      refusal_after (before ++ first ∷ []) rest place
      ≡ refusal_after before (first ∷ rest) (suc place)
  refusal_after-rest place =
      ap (λ list. option_and_then (breaks list) (slice_get rest place))
      (append_assoc before (first ∷ []) (take place rest))

  -- a place that isn't refused: the first, or one of the rest
  none_at : breaks before first ≡ None → (place : ℕ) →
      ((later : ℕ) → place ≡ suc later →
      refusal_after (before ++ first ∷ []) rest later ≡ None) →
      refusal_after before (first ∷ rest) place ≡ None
  none_at fits zero none = rw append-nil fits
  none_at fits (suc place) none = sym (refusal_after-rest place) ∙ none place refl

  first_or_later : (cause : Option Refusal) (found : Option ℕ) → breaks before first ≡ cause →
      IsFirstOrNone (before ++ first ∷ []) rest found →
      IsFirstOrNone before (first ∷ rest) (place_or cause (length before) found)
  first_or_later (Some refusal) found is later = record {
    place = 0;
    is = omega arith;
    refused = rw (append-nil, is) refl;
    least = λ earlier below. absurd (omega arith);
  }
  first_or_later None None is none =
      λ place. none_at is place (λ later same. none later)
  first_or_later None (Some found) is later = record {
    place = suc later.place;
    is =
        let at = later.is in
        let longer = length-append before (first ∷ []) in
        omega arith;
    refused = subst IsSome (refusal_after-rest later.place) later.refused;
    least = λ earlier below. none_at is earlier (λ n same. later.least n (omega arith));
  }

first_found : (before calls : List Shape) →
    IsFirstOrNone before calls (first_break_after before calls)
first_found before [] = λ place. refl
first_found before (first ∷ rest) =
    first_or_later before first rest (breaks before first) _ refl
    (first_found (before ++ first ∷ []) rest)

-- no place is refused and not refused
refused_none : {A : Type 0} (refusal : Option Refusal) → IsSome refusal → refusal ≡ None → A
refused_none None some none = absurd cc
refused_none (Some refusal) some none = absurd cc

module _ (calls : List Shape) where
  least_when_found : (found : ℕ) → IsFirst [] calls found → IsLeastBreak calls found
  least_when_found found first =
      let same : first.place ≡ found = (let at = first.is in omega arith) in
      subst (λ place. IsLeastBreak calls place) same
      (record { refused = first.refused; least = first.least })

  -- two least breaks are one
  same_least : (one other : ℕ) → IsLeastBreak calls one → IsLeastBreak calls other → one ≡ other
  same_least one other first second = ⊎_elim
      (λ same. same)
      (λ apart. ⊎_elim
      (λ below. refused_none _ first.refused (second.least one below))
      (λ above. refused_none _ second.refused (first.least other above))
      apart)
      (cases_order one other)

  by_found : (found : Option ℕ) → IsFirstOrNone [] calls found →
      ((place : ℕ) → (found ≡ Some place) ↔ IsLeastBreak calls place)
      × ((found ≡ None) ↔ ((place : ℕ) → refusal_at calls place ≡ None))
  by_found None none = (
    λ place. (
      λ some. absurd cc,
      λ least. refused_none _ least.refused (none place),
    ),
    (λ is. none, λ all. refl),
  )
  by_found (Some found) first =
      let least = least_when_found found first in (
        λ place. (
          λ some. subst (λ p. IsLeastBreak calls p) (same_Some found place some) least,
          λ other. ap Some (same_least found place least other),
        ),
        (λ none. absurd cc, λ all. refused_none _ least.refused (all found)),
      )

pub first_break_is_least : (calls : List Shape) → FirstBreakIsLeast calls
first_break_is_least calls =
    let told = by_found calls (first_break calls) (first_found [] calls) in
    record { place = told.0; none = told.1 }

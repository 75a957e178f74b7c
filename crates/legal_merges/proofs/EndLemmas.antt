-- Between a delegation and a later call of aggregation stands an end, which comes after the one and
-- before the other.
use Rattle.std.proofs.Common.{◌≡◌, ℕ, suc, ◌+◌, ◌<◌, Bool, true, false, Some, None, List, [], ◌∷◌, ◌++◌, length, take, refl, sym, ap, ◌∙◌, subst, arith, append-nil, append_assoc, length-append}
use Rattle.std.proofs.Math.Seq.{take-append_seam}
use Rattle.execution_definitions.specs.Shapes.{Shape, make, make_fixed, begin, delegate, write, get, end, total}
use Rattle.execution_definitions.specs.Epochs.{isolating}
use Rattle.execution_definitions.specs.Refusals.{breaks}
use Rattle.execution_definitions.specs.Soundness.{IsSound, refusal_at}
use Rattle.execution_definitions.proofs.lists.ListLemmas.{slice_get-append_seam}
use Rattle.execution_definitions.proofs.shapes.EpochsLemmas.{IsWithin, isolating-within, isolating-begin}
use Rattle.execution_definitions.proofs.shapes.LawsLemmas.{first_break_is_least}
use Rattle.interleavings.specs.Merges.{lane_of_call, lane_at, must_stand_before}
use Rattle.interleavings.proofs.shapes.HoldingLemmas.{accepted}
use Rattle.merge_laws.proofs.PlaceLemmas.{split_at, no_lane, lane_here, waits_here}

-- an end stands among these
record HasEnd (calls : List Shape) : Type 0 where
  pub front : List Shape
  pub rest : List Shape
  pub is : calls ≡ front ++ end ∷ rest

behind_first : (first : Shape) (rest : List Shape) → HasEnd rest → HasEnd (first ∷ rest)
behind_first first rest has = record {
  front = first ∷ has.front;
  rest = has.rest;
  is = ap (λ calls. first ∷ calls) has.is;
}

true_false : (b : Bool) → b ≡ true → b ≡ false → ⊥
true_false b is_true is_false = cc

module _ (before : List Shape) (is_open : isolating before ≡ true) where
  within : (call : Shape) → IsWithin call → isolating (before ++ call ∷ []) ≡ true
  within call is = isolating-within before call is ∙ is_open

-- an epoch that is open and then isn't was ended
end_among : (before more : List Shape) → isolating before ≡ true →
    isolating (before ++ more) ≡ false → HasEnd more
end_among before [] is_open closed =
    absurd (true_false (isolating before) is_open
    (ap isolating (sym (append-nil before)) ∙ closed))
end_among before (first ∷ rest) is_open closed = at first closed
    (λ call still shut. behind_first call rest
    (end_among (before ++ call ∷ []) rest still (ap isolating (append_assoc before (call ∷ []) rest) ∙ shut))) where
      at : (call : Shape) → isolating (before ++ call ∷ rest) ≡ false →
          ((call : Shape) → isolating (before ++ call ∷ []) ≡ true →
          isolating (before ++ call ∷ rest) ≡ false → HasEnd (call ∷ rest)) →
          HasEnd (call ∷ rest)
      at (make by) shut later =
          later (make by) (within before is_open (make by) (record { no_begin = refl; no_end = refl })) shut
      at make_fixed shut later =
          later make_fixed (within before is_open make_fixed (record { no_begin = refl; no_end = refl })) shut
      at begin shut later = later begin (isolating-begin before) shut
      at (delegate o own r) shut later =
          later (delegate o own r)
          (within before is_open (delegate o own r) (record { no_begin = refl; no_end = refl })) shut
      at (write o) shut later =
          later (write o) (within before is_open (write o) (record { no_begin = refl; no_end = refl })) shut
      at (get o) shut later =
          later (get o) (within before is_open (get o) (record { no_begin = refl; no_end = refl })) shut
      at end shut later = record { front = []; rest = rest; is = refl }
      at total shut later =
          later total (within before is_open total (record { no_begin = refl; no_end = refl })) shut

-- a call of the program context that comes after the one place and stands before the other
pub record HasEndBetween (n : ℕ) (calls : List Shape) (first second : ℕ) : Type 0 where
  pub place : ℕ
  pub before : place < second
  pub program : lane_at n calls place ≡ None
  pub must : must_stand_before n calls first place ≡ true

-- a call that has a lane was accepted in an epoch, and leaves it open
delegated_within : (n : ℕ) (before : List Shape) (call : Shape) (lane : ℕ) →
    lane_of_call n before (Some call) ≡ Some lane → breaks before call ≡ None →
    isolating (before ++ call ∷ []) ≡ true
delegated_within n before (make by) lane is ok = absurd cc
delegated_within n before make_fixed lane is ok = absurd cc
delegated_within n before begin lane is ok = absurd cc
delegated_within n before (delegate o own r) lane is ok =
    within before (accepted before o own r ok).is_open (delegate o own r)
    (record { no_begin = refl; no_end = refl })
delegated_within n before (write o) lane is ok = absurd cc
delegated_within n before (get o) lane is ok = absurd cc
delegated_within n before end lane is ok = absurd cc
delegated_within n before total lane is ok = absurd cc

accepted_at : (calls front : List Shape) (call : Shape) (rest : List Shape) →
    calls ≡ front ++ call ∷ rest → IsSound calls → breaks front call ≡ None
accepted_at calls front call rest is sound =
    let none : refusal_at calls (length front) ≡ None =
    (first_break_is_least calls).none.0 sound (length front) in
    let at : refusal_at calls (length front) ≡ breaks front call =
    rw (is, take-append_seam front (call ∷ rest), slice_get-append_seam front call rest) refl in
    sym at ∙ none

pub end_between : (n : ℕ) (calls : List Shape) (first second lane : ℕ) → IsSound calls →
    first < second → second < length calls → lane_at n calls first ≡ Some lane →
    isolating (take second calls) ≡ false → HasEndBetween n calls first second
end_between n calls first second lane sound earlier inside is closed =
    let later = split_at calls second inside in
    let whole : take second calls ≡ later.front =
    ap (λ k. take k calls) (sym later.count) ∙ ap (take (length later.front)) later.is
    ∙ take-append_seam later.front (later.here ∷ later.rest) in
    let here = split_at later.front first (subst (λ k. first < k) (sym later.count) earlier) in
    let parted : calls ≡ here.front ++ here.here ∷ (here.rest ++ later.here ∷ later.rest) =
    later.is ∙ ap (λ l. l ++ later.here ∷ later.rest) here.is
    ∙ append_assoc here.front (here.here ∷ here.rest) (later.here ∷ later.rest) in
    let has_lane : lane_of_call n here.front (Some here.here) ≡ Some lane =
    sym (lane_here n calls here.front here.here (here.rest ++ later.here ∷ later.rest) parted)
    ∙ ap (lane_at n calls) here.count ∙ is in
    let ok = accepted_at calls here.front here.here (here.rest ++ later.here ∷ later.rest) parted sound in
    let is_open = delegated_within n here.front here.here lane has_lane ok in
    let regrouped : later.front ≡ (here.front ++ here.here ∷ []) ++ here.rest =
    here.is ∙ sym (append_assoc here.front (here.here ∷ []) here.rest) in
    let has = end_among (here.front ++ here.here ∷ []) here.rest is_open
    (ap isolating (sym regrouped ∙ sym whole) ∙ closed) in
    let until = here.front ++ here.here ∷ has.front in
    let at_end : calls ≡ until ++ end ∷ (has.rest ++ later.here ∷ later.rest) =
    parted ∙ ap (λ l. here.front ++ here.here ∷ (l ++ later.here ∷ later.rest)) has.is
    ∙ ap (λ l. here.front ++ here.here ∷ l)
    (append_assoc has.front (end ∷ has.rest) (later.here ∷ later.rest))
    ∙ sym (append_assoc here.front (here.here ∷ has.front)
    (end ∷ (has.rest ++ later.here ∷ later.rest))) in
    let long : length until ≡ length here.front + suc (length has.front) =
    length-append here.front (here.here ∷ has.front) in
    let all : length later.front ≡ length here.front + suc (length here.rest) =
    ap length here.is ∙ length-append here.front (here.here ∷ here.rest) in
    let part : length here.rest ≡ length has.front + suc (length has.rest) =
    ap length has.is ∙ length-append has.front (end ∷ has.rest) in
    record {
      place = length until;
      before = let count = later.count in omega arith;
      program = lane_here n calls until end (has.rest ++ later.here ∷ later.rest) at_end
          ∙ no_lane n until end refl;
      must = ap (λ k. must_stand_before n calls k (length until)) (sym here.count)
          ∙ waits_here n calls here.front here.here (here.rest ++ later.here ∷ later.rest) parted
          until end (has.rest ++ later.here ∷ later.rest) lane at_end (omega arith) has_lane refl;
    }

-- What is kept of one call.
use Rattle.std.proofs.Common.{◌≡◌, ℕ, zero, suc, ◌+◌, ◌<◌, ◌≤◌, Bool, true, false, cond, Option, Some, None, List, [], refl, sym, ap, ◌∙◌, subst, arith, inl, inr}
use Rattle.std.specs.Prelude.{◌==◌, ◌⊎◌}
use Rattle.std.specs.Option.{option_map}
use Rattle.std.proofs.lemmas.Bool.Decides.{nat_tests}
use Rattle.ss_base.specs.Ids.{set_id}
use Rattle.ss_base.specs.declared.ids.SetId.{SetId}
use Rattle.execution_definitions.specs.Shapes.{Shape, delegate, write, get, end, is_begin}
use Rattle.execution_definitions.specs.Sets.{set_of, lane_of_set, serializer_in}
use Rattle.execution_definitions.specs.Epochs.{since, isolating}
use Rattle.execution_definitions.specs.Held.{last_set, last_set_among}
use Rattle.interleavings.specs.Merges.{lane_of_call, waits_for, has_lane, set_since_begin}
use Rattle.interleavings.proofs.shapes.HoldingLemmas.{set_since_begin-open}
use Rattle.partition_check.specs.Represents.{IsDelegatedTo}
use Rattle.legal_merges.specs.declared.step.Step.{Step}
use Rattle.legal_merges.specs.declared.step.Waits.{Waits}
use Rattle.legal_merges.specs.declared.step.Waits.TheVariants.{For, ForAll}
use Rattle.legal_merges.specs.kept.Turns.{turn_of, covers, AreTurns, IsStepAfter}
use Rattle.legal_merges.specs.kept.Judging.{IsWaitFor}
use Rattle.merge_laws.proofs.BegunLemmas.{false_true}

-- a lane among n
pub lane_below : (set n : ℕ) → 1 ≤ n → lane_of_set set n < n
lane_below set zero some = absurd (omega arith)
lane_below set (suc n) some = omega arith

not_first : (lane : ℕ) → (0 == suc lane) ≡ false
not_first lane = grind (arith, nat_tests)

-- a call of the program context that waits for no lane
pub step-free : (n : ℕ) (before : List Shape) (call : Shape) (step : Step) →
    step.turn ≡ 0 → step.waits ≡ For 0 → lane_of_call n before (Some call) ≡ None →
    ((lane : ℕ) → waits_for n lane before (Some call) ≡ false) →
    IsStepAfter n before (Some call) step
step-free n before call step turn waits none free = record {
  turn = turn ∙ ap turn_of (sym none);
  known = omega (arith, turn);
  waits_known = subst (AreTurns (n + 1)) (sym waits) (omega arith);
  needed = λ lane is.
      absurd (false_true (0 == suc lane) (not_first lane)
      (ap (λ w. covers w (suc lane)) (sym waits) ∙ is));
  enough = λ lane is. absurd (false_true _ (free lane) is);
}

-- an end
pub step-end : (n : ℕ) (before : List Shape) (step : Step) → step.turn ≡ 0 → step.waits ≡ ForAll →
    IsStepAfter n before (Some end) step
step-end n before step turn waits = record {
  turn = turn;
  known = omega (arith, turn);
  waits_known = subst (AreTurns (n + 1)) (sym waits) tt;
  needed = λ lane is. refl;
  enough = λ lane is. inl (ap (λ w. covers w (suc lane)) waits);
}

suc_same : (a b t : ℕ) → t ≡ a + 1 → (t == suc b) ≡ (a == b)
suc_same a b t is = by (a == b) refl where
  by : (u : Bool) → (a == b) ≡ u → (t == suc b) ≡ u
  by true e = grind (arith, nat_tests)
  by false e = grind (arith, nat_tests)

-- a delegation
pub step-delegate : (n : ℕ) (before : List Shape) (o own : ℕ) (r : Option ℕ) (step : Step) →
    1 ≤ n → step.turn ≡ lane_of_set (set_of before o own) n + 1 → step.waits ≡ For step.turn →
    IsStepAfter n before (Some (delegate o own r)) step
step-delegate n before o own r step some turn waits =
    let below = lane_below (set_of before o own) n some in
    let same : (lane : ℕ) → covers step.waits (suc lane)
    ≡ (lane_of_set (set_of before o own) n == lane) =
    λ lane. ap (λ w. covers w (suc lane)) waits
    ∙ suc_same (lane_of_set (set_of before o own) n) lane step.turn turn in
    record {
      turn = omega (arith, turn);
      known = omega (arith, turn, below);
      waits_known = subst (AreTurns (n + 1)) (sym waits) (omega (arith, turn, below));
      needed = λ lane is. sym (same lane) ∙ is;
      enough = λ lane is. inl (same lane ∙ is);
    }

-- what a write or a get waits for
pub waits-none : (n : ℕ) (calls : List Shape) (o : ℕ) (given : Option SetId) (waits : Waits) →
    IsDelegatedTo calls o given → given ≡ None → waits ≡ For 0 → IsWaitFor n calls o waits
waits-none n calls o given waits to none is = record {
  known = subst (AreTurns (n + 1)) (sym is) (omega arith);
  covered = λ lane.
      ap (λ w. covers w (suc lane)) is ∙ not_first lane
      ∙ sym (no_lane lane (last_set calls o) (sym to.set ∙ none));
} where
  no_lane : (lane : ℕ) (set : Option ℕ) → option_map set_id set ≡ None →
      has_lane n lane set ≡ false
  no_lane lane None e = refl
  no_lane lane (Some set) e = absurd cc

pub waits-some : (n : ℕ) (calls : List Shape) (o : ℕ) (given : Option SetId) (waits : Waits)
    (set : SetId) (turn : ℕ) → 1 ≤ n → IsDelegatedTo calls o given → given ≡ Some set →
    turn ≡ lane_of_set set.0 n + 1 → waits ≡ For turn → IsWaitFor n calls o waits
waits-some n calls o given waits set turn some to there at is =
    let below = lane_below set.0 n some in
    record {
      known = subst (AreTurns (n + 1)) (sym is) (omega (arith, at, below));
      covered = λ lane.
          ap (λ w. covers w (suc lane)) is ∙ suc_same (lane_of_set set.0 n) lane turn at
          ∙ sym (its_lane lane (last_set calls o) (sym to.set ∙ there));
    } where
      its_lane : (lane : ℕ) (last : Option ℕ) → option_map set_id last ≡ Some set →
          has_lane n lane last ≡ (lane_of_set set.0 n == lane)
      its_lane lane None e = absurd cc
      its_lane lane (Some s) e =
          let same : set_id s ≡ set = cc in
          ap (λ (x : SetId). lane_of_set x.0 n == lane) same

module _ (n : ℕ) (calls : List Shape) (o : ℕ) (waits : Waits) (is : IsWaitFor n calls o waits)
    (step : Step) (turn : step.turn ≡ 0) (kept : step.waits ≡ waits) where
  closed_none : isolating calls ≡ false → last_set calls o ≡ None
  closed_none closed =
      ap (λ (b : Bool). last_set_among (serializer_in calls o) o
      (cond b (since is_begin calls) [])) closed

  covered : (lane : ℕ) → covers step.waits (suc lane) ≡ has_lane n lane (last_set calls o)
  covered lane = ap (λ w. covers w (suc lane)) kept ∙ is.covered lane

  needed : (lane : ℕ) → covers step.waits (suc lane) ≡ true →
      has_lane n lane (set_since_begin calls o) ≡ true
  needed lane cover = by (isolating calls) refl where
    by : (b : Bool) → isolating calls ≡ b → has_lane n lane (set_since_begin calls o) ≡ true
    by true e =
        ap (has_lane n lane) (set_since_begin-open calls o e) ∙ sym (covered lane) ∙ cover
    by false e =
        absurd (false_true (has_lane n lane (last_set calls o))
        (ap (has_lane n lane) (closed_none e)) (sym (covered lane) ∙ cover))

  enough : (lane : ℕ) → has_lane n lane (set_since_begin calls o) ≡ true →
      (covers step.waits (suc lane) ≡ true) ⊎ (isolating calls ≡ false)
  enough lane waiting = by (isolating calls) refl where
    by : (b : Bool) → isolating calls ≡ b →
        (covers step.waits (suc lane) ≡ true) ⊎ (isolating calls ≡ false)
    by true e =
        inl (covered lane ∙ ap (has_lane n lane) (sym (set_since_begin-open calls o e)) ∙ waiting)
    by false e = inr e

  pub step-write : IsStepAfter n calls (Some (write o)) step
  step-write = record {
    turn = turn;
    known = omega (arith, turn);
    waits_known = subst (AreTurns (n + 1)) (sym kept) is.known;
    needed = needed;
    enough = enough;
  }

  pub step-get : IsStepAfter n calls (Some (get o)) step
  step-get = record {
    turn = turn;
    known = omega (arith, turn);
    waits_known = subst (AreTurns (n + 1)) (sym kept) is.known;
    needed = needed;
    enough = enough;
  }

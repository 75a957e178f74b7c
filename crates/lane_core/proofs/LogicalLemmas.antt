-- What is the logical state, by the stores to which lanes come?
--
-- Once all that was sent is taken nothing waits, so that the state of that core is the logical one.
use Rattle.std.proofs.Common.{◌≡◌, ℕ, zero, suc, ◌-◌, Bool, true, false, Option, Some, None, List, [], ◌∷◌, length, map, refl, sym, ap, ◌∙◌, arith}
use Rattle.std.specs.Prelude.{if◌then◌else◌, slice_get, fold, option_and_then}
use Rattle.std.specs.Option.{option_or}
use Rattle.execution_definitions.specs.Meanings.{Meaning}
use Rattle.execution_definitions.specs.Sequential.{State}
use Rattle.interleavings.specs.Machines.{Entry, entries_done, drained}
use Rattle.set_queue.specs.declared.message.Message.{Message}
use Rattle.set_queue.specs.declared.message.Message.TheVariants as message
use Rattle.delegates.specs.Stores.{Stored, value_of, taken, folded}
use Rattle.lane_core.specs.Views.{LaneView, LanesView, entries_in, runs_known, runs_sent, lane_of_object}
use Rattle.lane_core.specs.Cuts.{LaneAtCut, lane_after, lane_at, lanes_at}
use Rattle.lane_core.specs.Cores.{filled, carried, value_in, value_in_lane, value_away, with_total_of, core, logical_state}
use Rattle.lane_core.specs.Laws.{CutsAreLogical}
use Rattle.lane_core.proofs.StepLemmas.{same_either}
use Rattle.lane_core.proofs.FilledLemmas.{filled-same}
use Rattle.lane_core.proofs.LanesLemmas.{runs_sent-count, waiting_in}
use Rattle.lane_core.proofs.DrainLemmas.{all_runs, all-is_cut}

pub or_none : {A : Type 0} (found : Option A) → option_or found None ≡ found
or_none None = refl
or_none (Some a) = refl

module _ {C O R : Type 0} (m : Meaning C O R) where
  -- ---- a lane that has taken all that was sent

  pub record HasTakenAll (s : Stored C R) (messages : List (Message C O R)) (lane : LaneAtCut C O R)
      : Type 0 where
    pub store : lane.store ≡ folded m s messages
    pub none : waiting_in m lane ≡ []
    pub bare : (n : ℕ) → carried n lane.waiting ≡ None

  -- a stop changes nothing
  stop_first : (s : Stored C R) (rest : List (Message C O R)) (lane : LaneAtCut C O R) →
      HasTakenAll s rest lane → lane.store ≡ folded m s (message.Stop ∷ rest)
  stop_first s rest lane all =
      all.store ∙ ap (λ t. folded m t rest) (sym (same_either s.is_broken s))

  all_taken : (runs : ℕ) (s : Stored C R) (messages : List (Message C O R)) →
      length (entries_in messages) ≡ runs → HasTakenAll s messages (lane_after m runs s messages)
  all_taken zero s [] is = record { store = refl; none = refl; bare = λ n. refl }
  all_taken zero s (message.Stop ∷ rest) is =
      let all = all_taken zero s rest is in
      record { store = stop_first s rest _ all; none = all.none; bare = all.bare }
  all_taken zero s (message.Carry call epoch set object value op reading ∷ rest) is =
      absurd (omega (arith, is))
  all_taken zero s (message.Run call epoch set object op reading ∷ rest) is =
      absurd (omega (arith, is))
  all_taken (suc runs) s [] is = absurd (omega (arith, is))
  all_taken (suc runs) s (message.Stop ∷ rest) is =
      let all = all_taken (suc runs) s rest is in
      record { store = stop_first s rest _ all; none = all.none; bare = all.bare }
  all_taken (suc runs) s (message.Carry call epoch set object value op reading ∷ rest) is =
      let x = message.Carry call epoch set object value op reading in
      let all = all_taken runs (taken m s x) rest (omega (arith, is)) in
      record { store = all.store; none = all.none; bare = all.bare }
  all_taken (suc runs) s (message.Run call epoch set object op reading ∷ rest) is =
      let x = message.Run call epoch set object op reading in
      let all = all_taken runs (taken m s x) rest (omega (arith, is)) in
      record { store = all.store; none = all.none; bare = all.bare }

  pub lane_done : (lane : LaneView C O R) →
      HasTakenAll lane.base lane.since (lane_at m lane (length (runs_sent lane)))
  lane_done lane =
      let count = runs_sent-count lane in
      all_taken (length (runs_sent lane) - length (runs_known lane)) lane.base lane.since
      (omega (arith, count))

  -- ---- all lanes

  -- the store to which a lane comes
  abbrev pub come : LaneView C O R → Stored C R
  come lane = folded m lane.base lane.since

  -- a total with what a store has
  abbrev pub with_store : R → Stored C R → R
  with_store total s = m.join total s.total

  -- the lanes of the greatest cut
  abbrev all_done : List (LaneView C O R) → List (LaneAtCut C O R)
  all_done lanes = lanes_at m lanes (all_runs lanes)

  totals : (total : R) (lanes : List (LaneView C O R)) →
      fold (with_total_of m) total (all_done lanes) ≡ fold with_store total (map come lanes)
  totals total [] = refl
  totals total (lane ∷ lanes) =
      ap (λ (s : Stored C R). fold (with_total_of m) (m.join total s.total) (all_done lanes))
      (lane_done lane).store
      ∙ totals (m.join total (come lane).total) lanes

  none_waits : (state : State C R) (lanes : List (LaneView C O R)) →
      fold (entries_done m) state (map (waiting_in m) (all_done lanes)) ≡ state
  none_waits state [] = refl
  none_waits state (lane ∷ lanes) =
      ap (λ entries. fold (entries_done m) (entries_done m state entries)
      (map (waiting_in m) (all_done lanes))) (lane_done lane).none
      ∙ none_waits state lanes

  value_there : (n : ℕ) (lanes : List (LaneView C O R)) (l : ℕ) →
      option_and_then (value_in n) (slice_get (all_done lanes) l)
      ≡ option_and_then (λ (s : Stored C R). value_of s n) (slice_get (map come lanes) l)
  value_there n [] l = refl
  value_there n (lane ∷ lanes) zero =
      let all = lane_done lane in
      ap (λ there. option_or (value_of (lane_at m lane (length (runs_sent lane))).store n) there)
      (all.bare n)
      ∙ or_none (value_of (lane_at m lane (length (runs_sent lane))).store n)
      ∙ ap (λ (s : Stored C R). value_of s n) all.store
  value_there n (lane ∷ lanes) (suc l) = value_there n lanes l

  -- the value of an object in its lane, where this has come so far
  abbrev pub value_come : LanesView C O R → ℕ → Option C
  value_come view n =
      option_and_then (λ (s : Stored C R). value_of s n)
      (option_and_then (slice_get (map come view.lanes)) (lane_of_object view n))

  values_done : (view : LanesView C O R) (n : ℕ) →
      value_come view n ≡ value_away view (all_done view.lanes) n
  values_done view n = by (lane_of_object view n) where
    by : (lane : Option ℕ) →
        option_and_then (λ (s : Stored C R). value_of s n)
        (option_and_then (slice_get (map come view.lanes)) lane)
        ≡ value_in_lane (all_done view.lanes) n lane
    by None = refl
    by (Some l) = sym (value_there n view.lanes l)

  same_state : (v w : List C) (t u : R) → v ≡ w → t ≡ u →
      (let left : State C R = record { values = v; total = t } in
      let right : State C R = record { values = w; total = u } in
      left ≡ right)
  same_state v w t u values total = rw (values, total) refl

  -- the logical state is that of the stores to which lanes come
  pub logical_is : (view : LanesView C O R) → CutsAreLogical m view →
      logical_state m view ≡ record {
        values = filled (value_come view) view.values;
        total = fold with_store view.total (map come view.lanes);
      }
  logical_is view logical =
      sym (logical (all_runs view.lanes) (all-is_cut view.lanes))
      ∙ none_waits (core m view (all_runs view.lanes)).state view.lanes
      ∙ same_state _ _ _ _
      (sym (filled-same (value_away view (all_done view.lanes)) (value_come view) view.values
      (values_done view)))
      (totals view.total view.lanes)

-- A cut with one run more in a lane is the event of that lane.
use Rattle.std.proofs.Common.{◌≡◌, ℕ, zero, suc, Bool, true, false, Option, Some, None, List, [], ◌∷◌, refl, sym, ap, ◌∙◌}
use Rattle.std.specs.Prelude.{◌==◌, slice_get, slice_set, is_some, option_and_then}
use Rattle.std.proofs.lemmas.Bool.{eqb-true}
use Rattle.class_laws.specs.Laws.{ReducibleLaws}
use Rattle.execution_definitions.specs.Meanings.{Meaning}
use Rattle.execution_definitions.specs.Sequential.{State, operated_on}
use Rattle.interleavings.specs.Machines.{Entry, Core, front_at, without_front, taken, lane_event}
use Rattle.interleavings.proofs.programs.OperatedLemmas.{slice_get-set_other}
use Rattle.lane_core.specs.Views.{LanesView, lane_of_object}
use Rattle.lane_core.specs.Cuts.{LaneAtCut, IsCut, with_one_more, lane_at, lanes_at}
use Rattle.lane_core.specs.Cores.{value_in, value_in_lane, value_away, core_with, core}
use Rattle.lane_core.specs.Kept.{IsKept}
use Rattle.lane_core.specs.Laws.{IsLaneEvent, CutsGoOn}
use Rattle.lane_core.proofs.FilledLemmas.{Covers, get-filled, filled-put}
use Rattle.lane_core.proofs.StepLemmas.{are_apart}
use Rattle.lane_core.proofs.LanesLemmas.{AreServed, IsAt, at_cut, keeps_objects, GoesOn, goes_on, waiting_in, front-is, waiting-put, total-put}

pub get-set : {A : Type 0} (xs : List A) (i : ℕ) (x y : A) → slice_get xs i ≡ Some x →
    slice_get (slice_set xs i y) i ≡ Some y
get-set [] i x y here = absurd cc
get-set (first ∷ xs) zero x y here = refl
get-set (first ∷ xs) (suc i) x y here = get-set xs i x y here

module _ {C O R : Type 0} (m : Meaning C O R) where
  pub are_served : (view : LanesView C O R) → IsKept view → AreServed view.lanes
  are_served view kept number lane there =
      record { whole = kept.whole number lane there; served = kept.served number lane there }

  -- at each cut each object that isn't at home has a value
  pub covers : (view : LanesView C O R) → IsKept view → (cut : List ℕ) →
      IsCut view.lanes cut → Covers (value_away view (lanes_at m view.lanes cut)) view.values
  covers view kept cut is object away =
      let place = kept.away object away in
      let at : IsAt m view.lanes cut place.0 place.2.lane =
      at_cut m view.lanes cut is place.0 place.2.lane place.2.at in
      rw (place.1, at.here)
      (keeps_objects m place.2.lane at.runs (are_served view kept place.0 place.2.lane place.2.at)
      at.within object ∙ place.2.has)

  -- another object has the value that it had
  other_value : (lanes : List (LaneAtCut C O R)) (number : ℕ) (before after : LaneAtCut C O R)
      (object : ℕ) → slice_get lanes number ≡ Some before →
      value_in object after ≡ value_in object before → (lane : Option ℕ) →
      value_in_lane (slice_set lanes number after) object lane ≡ value_in_lane lanes object lane
  other_value lanes number before after object here same None = refl
  other_value lanes number before after object here same (Some lane) =
      by (lane == number) refl where
        by : (b : Bool) → (lane == number) ≡ b →
            value_in_lane (slice_set lanes number after) object (Some lane)
            ≡ value_in_lane lanes object (Some lane)
        by true is =
            let e = eqb-true lane number is in
            rw (e, get-set lanes number before after here, here) same
        by false is =
            ap (option_and_then (value_in object))
            (slice_get-set_other lanes number lane after
            (λ same. are_apart lane number is (sym same)))

  -- a core of these parts
  pub same_core : (v w : List C) (t u : R) (k l : List (List (Entry C O))) → v ≡ w → t ≡ u → k ≡ l →
      (let left : Core C O R = record { state = record { values = v; total = t }; lanes = k } in
      let right : Core C O R = record { state = record { values = w; total = u }; lanes = l } in
      left ≡ right)
  same_core v w t u k l values total lanes = rw (values, total, lanes) refl

  -- what an entry leaves, where its object has this value
  entry_leaves : (core : Core C O R) (lane : ℕ) (e : Entry C O) (value : C) →
      front_at core.lanes lane ≡ Some e →
      slice_get core.state.values e.run.object.0 ≡ Some value →
      lane_event m core lane ≡ record {
        state = record {
          values = slice_set core.state.values e.run.object.0 (m.step value e.op e.read).0;
          total = m.join core.state.total (m.step value e.op e.read).1;
        };
        lanes = without_front lane core.lanes;
      }
  entry_leaves core lane e value front here =
      ap (taken m core lane) front
      ∙ ap (λ (state : State C R). record { state = state; lanes = without_front lane core.lanes })
      (ap (operated_on m core.state e.run.object.0 e.op e.read) here)

  module _ (laws : ReducibleLaws m.unit m.join) where
    is_event : (view : LanesView C O R) → IsKept view → (cut : List ℕ) (number : ℕ) →
        IsCut view.lanes cut → GoesOn m view.lanes cut number →
        IsLaneEvent m (core m view cut) (core m view (with_one_more number cut)) number
    is_event view kept cut number is on =
        let before = lanes_at m view.lanes cut in
        let old = lane_at m on.lane on.runs in
        let new = lane_at m on.lane (suc on.runs) in
        let after = slice_set before number new in
        let e = on.steps.taken in
        let value = on.steps.value in
        let step = on.steps.is in
        let object = e.run.object.0 in
        let stepped = m.step value e.op e.read in
        let has = sym (keeps_objects m on.lane on.runs
        (are_served view kept number on.lane on.there) on.within object)
        ∙ ap (λ o. is_some o) step.had in
        let place = kept.apart object number
        (record { lane = on.lane; at = on.there; has = has }) in
        let all = covers view kept cut is in
        let had : value_away view before object ≡ Some value = rw (place.1, on.here) step.had in
        let front = front-is m before number old e (waiting_in m new) on.here step.entries in
        let leaves = entry_leaves (core m view cut) number e value front
        (get-filled (value_away view before) view.values object value all place.0 had) in
        record {
          enabled = rw front refl;
          leaves = ap (core_with m view) on.next
              ∙ same_core _ _ _ _ _ _
              (filled-put (value_away view before) (value_away view after) view.values object
              stepped.0 all place.0
              (rw (place.1, get-set before number old new on.here) step.has)
              (λ n differs. other_value before number old new n on.here (step.others n differs)
              (lane_of_object view n)))
              (total-put m laws view.total stepped.1 before number old new on.here step.total)
              (waiting-put m before number old new e on.here step.entries)
              ∙ sym leaves;
        }

    pub cuts_go_on : (view : LanesView C O R) → IsKept view → CutsGoOn m view
    cuts_go_on view kept cut number inside is next =
        is_event view kept cut number is
        (goes_on m view.lanes cut number (are_served view kept) inside is next)

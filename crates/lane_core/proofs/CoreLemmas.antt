-- What is the core at a cut, by what lanes have there?
use Rattle.std.proofs.Common.{◌≡◌, ℕ, zero, suc, ◌⊎◌, inl, inr, true, Option, Some, None, List, [], ◌∷◌, length, map, refl, sym, ap, ◌∙◌, arith}
use Rattle.std.specs.Prelude.{slice_get, is_some, fold}
use Rattle.std.proofs.lemmas.Option.{same_Some, none-some}
use Rattle.execution_definitions.specs.Meanings.{Meaning}
use Rattle.execution_definitions.specs.Sequential.{State}
use Rattle.interleavings.specs.Machines.{Entry, Core}
use Rattle.lane_core.specs.Views.{LanesView}
use Rattle.lane_core.specs.Cuts.{LaneAtCut, IsCut, lane_at, lanes_at}
use Rattle.lane_core.specs.Cores.{filled, value_in, value_away, with_total_of, core}
use Rattle.lane_core.specs.Kept.{has_object, IsKept}
use Rattle.lane_core.specs.Events.{HasValue, IsInLane, AreSame}
use Rattle.lane_core.proofs.FilledLemmas.{get-filled, get-filled-home, get-filled-none, length-filled}
use Rattle.lane_core.proofs.StepLemmas.{some_value}
use Rattle.lane_core.proofs.LanesLemmas.{IsAt, at_cut, IsOf, of_cut, keeps_objects, waiting_in}
use Rattle.lane_core.proofs.EventLemmas.{are_served, covers, same_core}

module _ {A : Type 0} where
  -- lists that have the same elements
  pub same_lists : (xs ys : List A) → length ys ≡ length xs →
      ((n : ℕ) (x : A) → slice_get ys n ≡ Some x → slice_get xs n ≡ Some x) → xs ≡ ys
  same_lists [] [] count same = refl
  same_lists [] (y ∷ ys) count same = absurd (omega (arith, count))
  same_lists (x ∷ xs) [] count same = absurd (omega (arith, count))
  same_lists (x ∷ xs) (y ∷ ys) count same =
      let rest = same_lists xs ys (omega (arith, count)) (λ n. same (suc n)) in
      rw (same_Some x y (same 0 y refl), rest) refl

module _ {C O R : Type 0} (m : Meaning C O R) (view : LanesView C O R) (kept : IsKept view)
    (cut : List ℕ) (is : IsCut view.lanes cut)
  where
    abbrev lanes : List (LaneAtCut C O R)
    lanes = lanes_at m view.lanes cut

    abbrev away : ℕ → Option C
    away = value_away view lanes

    -- a value of the core is at home or in a lane
    pub has_value : (n : ℕ) (value : C) →
        slice_get (core m view cut).state.values n ≡ Some value → HasValue view.values lanes n value
    has_value n value at = by (slice_get view.values n) refl where
      by : (found : Option (Option C)) → slice_get view.values n ≡ found →
          HasValue view.values lanes n value
      by None found =
          absurd (none-some value
          (sym (get-filled-none away view.values n (covers m view kept cut is) found) ∙ at))
      by (Some (Some here)) found =
          inl (found ∙ ap Some
          (sym (get-filled-home away view.values n here (covers m view kept cut is) found) ∙ at))
      by (Some None) found =
          let place = kept.away n found in
          let there : IsAt m view.lanes cut place.0 place.2.lane =
          at_cut m view.lanes cut is place.0 place.2.lane place.2.at in
          let here : away n ≡ value_in n (lane_at m place.2.lane there.runs) =
          rw (place.1, there.here) refl in
          let some = some_value (away n) (covers m view kept cut is n found) in
          let same : some.0 ≡ value = same_Some some.0 value (sym (get-filled away view.values n some.0
          (covers m view kept cut is) found some.1) ∙ at) in
          inr (
            found,
            record {
              number = place.0;
              lane = lane_at m place.2.lane there.runs;
              at = there.here;
              has = sym here ∙ some.1 ∙ ap Some same;
            },
          )

    -- and the other way round
    pub has_at_core : (n : ℕ) (value : C) → HasValue view.values lanes n value →
        slice_get (core m view cut).state.values n ≡ Some value
    has_at_core n value (inl home) =
        get-filled-home away view.values n value (covers m view kept cut is) home
    has_at_core n value (inr (none, there)) =
        let of : IsOf m view.lanes there.number there.lane =
        of_cut m view.lanes cut is there.number there.lane there.at in
        let has : has_object of.lane n ≡ true =
        sym (keeps_objects m of.lane of.runs (are_served m view kept there.number of.lane of.there)
        of.within n) ∙ ap (λ (lane : LaneAtCut C O R). is_some (value_in n lane)) (sym of.is)
        ∙ ap (λ o. is_some o) there.has in
        let place = kept.apart n there.number
        (record { lane = of.lane; at = of.there; has = has }) in
        let here : away n ≡ Some value = rw (place.1, there.at) there.has in
        get-filled away view.values n value (covers m view kept cut is) none here

    -- so the core at the cut is this, if lanes have just these values there
    pub core_of : (state : State C R) (waits : List (List (Entry C O))) →
        length state.values ≡ length view.values →
        ((n : ℕ) (value : C) → slice_get state.values n ≡ Some value →
        HasValue view.values lanes n value) →
        fold (with_total_of m) view.total lanes ≡ state.total → map (waiting_in m) lanes ≡ waits →
        core m view cut ≡ (let other : Core C O R = record { state = state; lanes = waits } in other)
    core_of state waits count values total waiting =
        same_core m _ _ _ _ _ _
        (same_lists (filled away view.values) state.values
        (count ∙ sym (length-filled away view.values (covers m view kept cut is)))
        (λ n value at. has_at_core n value (values n value at)))
        total waiting

module _ {C O R : Type 0} (m : Meaning C O R) (old new : LanesView C O R) where
  -- lanes with the same have the same core
  pub same_at : IsKept old → IsKept new → (cut other : List ℕ) (is : IsCut old.lanes cut)
      (is_other : IsCut new.lanes other) →
      AreSame m old new (lanes_at m old.lanes cut) (lanes_at m new.lanes other) →
      core m new other ≡ core m old cut
  same_at kept new_kept cut other is is_other same =
      core_of m new new_kept other is_other (core m old cut).state (core m old cut).lanes
      (length-filled (value_away old (lanes_at m old.lanes cut)) old.values
      (covers m old kept cut is) ∙ sym same.count)
      (λ n value at. same.values n value (has_value m old kept cut is n value at))
      same.total same.waiting

-- Which event of the machine is a call on running lanes?
use Rattle.std.proofs.Common.{◌≡◌, ℕ, zero, suc, ◌+◌, ◌-◌, Bool, true, false, ◌⊎◌, inl, inr, Option, Some, None, List, [], ◌∷◌, ◌++◌, length, map, length-append, refl, sym, ap, ap₂, ◌∙◌, subst, arith}
use Rattle.std.specs.Prelude.{◌==◌, slice_get, slice_set, fold}
use Rattle.std.specs.List.{list_all}
use Rattle.std.proofs.lemmas.Bool.{eqb-true}
use Rattle.std.proofs.lemmas.Option.{same_Some}
use Rattle.class_laws.specs.Laws.{ReducibleLaws}
use Rattle.ss_base.specs.declared.ids.ObjectId.{ObjectId}
use Rattle.ss_base.specs.declared.ids.Run.{Run}
use Rattle.execution_definitions.specs.declared.call.Call.{Call}
use Rattle.execution_definitions.specs.declared.call.Call.TheVariants.{Make, MakeFixed, Begin, Delegate, Write, Get, End, Total}
use Rattle.execution_definitions.specs.Held.{last_set}
use Rattle.execution_definitions.specs.Sets.{lane_of_set}
use Rattle.execution_definitions.specs.Runs.{run_of}
use Rattle.execution_definitions.specs.Meanings.{Meaning, shape_of, shapes_of}
use Rattle.execution_definitions.specs.Sequential.{State, value_read, with_object, put, operated, operated_on}
use Rattle.interleavings.specs.Machines.{Entry, Core, is_empty, is_idle, is_idle_for, with_entry, may_take, call_event, entered}
use Rattle.lane_core.specs.Views.{LaneView, LanesView, entries_in, runs_known}
use Rattle.lane_core.specs.Cuts.{LaneAtCut, IsCut, least_cut, lane_after, lane_at, lanes_at}
use Rattle.lane_core.specs.Cores.{value_away, with_total_of, core}
use Rattle.lane_core.specs.Kept.{IsKept}
use Rattle.lane_core.specs.Events.{IsInLane, HasValue, AreSame, HaveComeOn, AreEntered, HasEntered, IsItsEvent}
use Rattle.interleavings.proofs.programs.OperatedLemmas.{slice_get-set_other}
use Rattle.lane_core.proofs.StepLemmas.{are_apart}
use Rattle.lane_core.proofs.FilledLemmas.{length-filled}
use Rattle.lane_core.proofs.LanesLemmas.{waiting_in, total_more}
use Rattle.lane_core.proofs.EventLemmas.{get-set, covers}
use Rattle.lane_core.proofs.DrainLemmas.{least-is_cut, count_at_cut}
use Rattle.lane_core.proofs.CoreLemmas.{has_value, has_at_core, core_of, same_at}

module _ {A : Type 0} where
  get-append : (xs ys : List A) (n : ℕ) (x : A) → slice_get xs n ≡ Some x →
      slice_get (xs ++ ys) n ≡ Some x
  get-append [] ys n x at = absurd cc
  get-append (first ∷ xs) ys zero x at = at
  get-append (first ∷ xs) ys (suc n) x at = get-append xs ys n x at

  get-last : (xs : List A) (x : A) → slice_get (xs ++ x ∷ []) (length xs) ≡ Some x
  get-last [] x = refl
  get-last (first ∷ xs) x = get-last xs x

  last_or_before : (xs : List A) (n : ℕ) (last x : A) → slice_get (xs ++ last ∷ []) n ≡ Some x →
      (slice_get xs n ≡ Some x) ⊎ ((n ≡ length xs) × (last ≡ x))
  last_or_before [] zero last x at = inr (refl, same_Some last x at)
  last_or_before [] (suc n) last x at = absurd cc
  last_or_before (first ∷ xs) zero last x at = inl at
  last_or_before (first ∷ xs) (suc n) last x at = by (last_or_before xs n last x at) where
    by : (slice_get xs n ≡ Some x) ⊎ ((n ≡ length xs) × (last ≡ x)) →
        (slice_get (first ∷ xs) (suc n) ≡ Some x)
        ⊎ ((suc n ≡ length (first ∷ xs)) × (last ≡ x))
    by (inl before) = inl before
    by (inr (is, same)) = inr (ap suc is, same)

  length-slice_set : (xs : List A) (n : ℕ) (x : A) → length (slice_set xs n x) ≡ length xs
  length-slice_set [] n x = refl
  length-slice_set (first ∷ xs) zero x = refl
  length-slice_set (first ∷ xs) (suc n) x = ap suc (length-slice_set xs n x)

module _ {C O R : Type 0} (m : Meaning C O R) where
  -- ---- lanes that are known to have come to all that was sent

  waits_at_least : (lane : LaneView C O R) →
      waiting_in m (lane_at m lane (length (runs_known lane))) ≡ entries_in lane.since
  waits_at_least lane =
      let none : length (runs_known lane) - length (runs_known lane) ≡ 0 = omega arith in
      ap (λ runs. waiting_in m (lane_after m runs lane.base lane.since)) none

  -- nothing waits in a lane
  pub idle_at : (lanes : List (LaneView C O R)) (number : ℕ) →
      ((lane : LaneView C O R) → slice_get lanes number ≡ Some lane → lane.since ≡ []) →
      is_idle (slice_get (map (waiting_in m) (lanes_at m lanes (least_cut lanes))) number) ≡ true
  idle_at [] number none = refl
  idle_at (lane ∷ lanes) zero none =
      ap is_empty (waits_at_least lane ∙ ap entries_in (none lane refl))
  idle_at (lane ∷ lanes) (suc number) none = idle_at lanes number none

  -- nothing waits in any lane
  pub all_idle : (lanes : List (LaneView C O R)) →
      ((number : ℕ) (lane : LaneView C O R) → slice_get lanes number ≡ Some lane →
      lane.since ≡ []) →
      list_all is_empty (map (waiting_in m) (lanes_at m lanes (least_cut lanes))) ≡ true
  all_idle [] none = refl
  all_idle (lane ∷ lanes) none =
      rw (waits_at_least lane ∙ ap entries_in (none 0 lane refl))
      (all_idle lanes (λ number. none (suc number)))

  -- ---- an operation is sent once lanes have come on

  pub entered_on : (a b c : LanesView C O R) (number : ℕ) (e : Entry C O) → HaveComeOn m a b →
      HasEntered m b c number e → HasEntered m a c number e
  entered_on a b c number e on sent =
      let early = on.each (least_cut c.lanes) sent.cut in
      record {
        cut = early.0;
        entered = record {
          count = sent.entered.count ∙ early.1.count;
          values = λ n value has. sent.entered.values n value (early.1.values n value has);
          total = sent.entered.total ∙ early.1.total;
          waiting = sent.entered.waiting
              ∙ ap (λ lanes. with_entry number e lanes) early.1.waiting;
        };
      }

  -- ---- calls

  module _ (before : List (Call C O)) (old new : LanesView C O R) (kept : IsKept old)
      (new_kept : IsKept new)
    where
      abbrev cut : List ℕ
      cut = least_cut new.lanes

      same_core_at : HaveComeOn m old new → core m new cut ≡ core m old cut
      same_core_at on =
          let each = on.each cut (least-is_cut new.lanes) in
          same_at m old new kept new_kept cut cut each.0 (least-is_cut new.lanes) each.1

      -- a call that changes no value, where lanes have come on
      pub still_event : (call : Call C O) → HaveComeOn m old new →
          may_take m before (core m new cut) call ≡ true →
          call_event m before (core m old cut) call ≡ core m old cut →
          IsItsEvent m before old new call
      still_event call on may still = record {
        cut = (on.each cut (least-is_cut new.lanes)).0;
        enabled = ap (λ c. may_take m before c call) (sym (same_core_at on)) ∙ may;
        leaves = same_core_at on ∙ sym still;
      }

      -- an object more
      pub make_event : (value : C) (call : Call C O) → new.values ≡ old.values ++ Some value ∷ [] →
          new.total ≡ old.total → new.lanes ≡ old.lanes →
          may_take m before (core m old cut) call ≡ true →
          call_event m before (core m old cut) call
          ≡ record (core m old cut) { state = with_object (core m old cut).state value } →
          IsItsEvent m before old new call
      make_event value call values total lanes may makes =
          let is : IsCut old.lanes cut =
          subst (λ all. IsCut all cut) lanes (least-is_cut new.lanes) in
          let core_is = core_of m new new_kept cut (least-is_cut new.lanes)
          (with_object (core m old cut).state value) (core m old cut).lanes
          (length-append (core m old cut).state.values (value ∷ [])
          ∙ ap (λ k. k + 1) (length-filled (value_away old (lanes_at m old.lanes cut)) old.values
          (covers m old kept cut is))
          ∙ sym (ap length values ∙ length-append old.values (Some value ∷ [])))
          (λ n found at. more n found is
          (last_or_before (core m old cut).state.values n value found at))
          (ap₂ (λ total all. fold (with_total_of m) total (lanes_at m all cut)) total lanes)
          (ap (λ all. map (waiting_in m) (lanes_at m all cut)) lanes) in
          record { cut = is; enabled = may; leaves = core_is ∙ sym makes }
        where
          more : (n : ℕ) (found : C) (is : IsCut old.lanes cut) →
              (slice_get (core m old cut).state.values n ≡ Some found)
              ⊎ ((n ≡ length (core m old cut).state.values) × (value ≡ found)) →
              HasValue new.values (lanes_at m new.lanes cut) n found
          more n found is (inl at) = by (has_value m old kept cut is n found at) where
            by : HasValue old.values (lanes_at m old.lanes cut) n found →
                HasValue new.values (lanes_at m new.lanes cut) n found
            by (inl home) = inl (ap (λ xs. slice_get xs n) values
                ∙ get-append old.values (Some value ∷ []) n (Some found) home)
            by (inr (none, there)) = inr (
              ap (λ xs. slice_get xs n) values
                  ∙ get-append old.values (Some value ∷ []) n None none,
              subst (λ all. IsInLane (lanes_at m all cut) n found) (sym lanes) there,
            )
          more n found is (inr (last, same)) = inl (ap (λ xs. slice_get xs n) values
              ∙ ap (slice_get (old.values ++ Some value ∷ [])) (last
              ∙ length-filled (value_away old (lanes_at m old.lanes cut)) old.values
              (covers m old kept cut is))
              ∙ get-last old.values (Some value) ∙ ap (λ v. Some (Some v)) same)

      -- an operation took effect at home, once lanes had come on
      pub write_event : ReducibleLaws m.unit m.join → (mid : LanesView C O R) → IsKept mid →
          HaveComeOn m old mid → (object : ObjectId) (op : O) (value : C) →
          slice_get mid.values object.0 ≡ Some (Some value) →
          new.values ≡ slice_set mid.values object.0 (Some (m.step value op None).0) →
          new.total ≡ m.join mid.total (m.step value op None).1 → new.lanes ≡ mid.lanes →
          may_take m before (core m new cut) (Write object op) ≡ true →
          IsItsEvent m before old new (Write object op)
      write_event laws mid mid_kept on object op value here values total lanes may =
          let is : IsCut mid.lanes cut =
          subst (λ all. IsCut all cut) lanes (least-is_cut new.lanes) in
          let each = on.each cut is in
          let same : core m mid cut ≡ core m old cut =
          same_at m old mid kept mid_kept cut cut each.0 is each.1 in
          let stepped = m.step value op None in
          let was = has_at_core m mid mid_kept cut is object.0 value (inl here) in
          let now : operated m (core m mid cut).state object.0 op None
          ≡ put m (core m mid cut).state object.0 stepped =
          ap (operated_on m (core m mid cut).state object.0 op None) was in
          let written = core_of m new new_kept cut (least-is_cut new.lanes)
          (put m (core m mid cut).state object.0 stepped) (core m mid cut).lanes
          (length-slice_set (core m mid cut).state.values object.0 stepped.0
          ∙ length-filled (value_away mid (lanes_at m mid.lanes cut)) mid.values
          (covers m mid mid_kept cut is)
          ∙ sym (ap length values ∙ length-slice_set mid.values object.0 (Some stepped.0)))
          (λ n found at. still n found is at (n == object.0) refl)
          (ap₂ (λ total all. fold (with_total_of m) total (lanes_at m all cut)) total lanes
          ∙ total_more m laws mid.total stepped.1 (lanes_at m mid.lanes cut))
          (ap (λ all. map (waiting_in m) (lanes_at m all cut)) lanes) in
          record {
            cut = each.0;
            enabled = idle_same (core m old cut) (core m new cut)
                (ap (λ (c : Core C O R). c.lanes) (sym same)
                ∙ sym (ap (λ (c : Core C O R). c.lanes) written)) ∙ may;
            leaves = written
                ∙ ap (λ (state : State C R). record (core m mid cut) { state = state }) (sym now)
                ∙ ap (λ (c : Core C O R). record c { state = operated m c.state object.0 op None }) same;
          }
        where
          idle_same : (a b : Core C O R) → a.lanes ≡ b.lanes →
              may_take m before a (Write object op) ≡ may_take m before b (Write object op)
          idle_same a b same = by (last_set (shapes_of m before) object.0) where
            by : (last : Option ℕ) → is_idle_for a last ≡ is_idle_for b last
            by None = refl
            by (Some set) =
                ap (λ lanes. is_idle (slice_get lanes (lane_of_set set (length lanes)))) same

          still : (n : ℕ) (found : C) (is : IsCut mid.lanes cut) →
              slice_get (slice_set (core m mid cut).state.values object.0 (m.step value op None).0) n
              ≡ Some found →
              (same : Bool) → (n == object.0) ≡ same →
              HasValue new.values (lanes_at m new.lanes cut) n found
          still n found is at true same =
              let e = eqb-true n object.0 same in
              let was = has_at_core m mid mid_kept cut is object.0 value (inl here) in
              let is_found = same_Some (m.step value op None).0 found
              (sym (get-set (core m mid cut).state.values object.0 value (m.step value op None).0 was)
              ∙ ap (slice_get (slice_set (core m mid cut).state.values object.0
              (m.step value op None).0)) (sym e) ∙ at) in
              inl (ap₂ slice_get values e
              ∙ get-set mid.values object.0 (Some value) (Some (m.step value op None).0) here
              ∙ ap (λ v. Some (Some v)) is_found)
          still n found is at false same =
              let differs : object.0 ≡ n → ⊥ = λ e. are_apart n object.0 same (sym e) in
              let other = slice_get-set_other mid.values object.0 n
              (Some (m.step value op None).0) differs in
              by other (has_value m mid mid_kept cut is n found
              (sym (slice_get-set_other (core m mid cut).state.values object.0 n
              (m.step value op None).0 differs) ∙ at))
            where
              by : slice_get (slice_set mid.values object.0 (Some (m.step value op None).0)) n
                  ≡ slice_get mid.values n →
                  HasValue mid.values (lanes_at m mid.lanes cut) n found →
                  HasValue new.values (lanes_at m new.lanes cut) n found
              by other (inl home) = inl (ap (λ xs. slice_get xs n) values ∙ other ∙ home)
              by other (inr (none, there)) =
                  inr (
                    ap (λ xs. slice_get xs n) values ∙ other ∙ none,
                    subst (λ all. IsInLane (lanes_at m all cut) n found) (sym lanes) there,
                  )

      -- what an operation reads is at home
      abbrev pub IsRead : Option ObjectId → Option C → Type 0
      IsRead None read = read ≡ None
      IsRead (Some object) read =
          (value : C) × (read ≡ Some value) × (slice_get new.values object.0 ≡ Some (Some value))

      -- an operation waits
      pub entered_core : (number : ℕ) (e : Entry C O) → HasEntered m old new number e →
          core m new cut
          ≡ record (core m old cut) { lanes = with_entry number e (core m old cut).lanes }
      entered_core number e sent =
          core_of m new new_kept cut (least-is_cut new.lanes) (core m old cut).state
          (with_entry number e (core m old cut).lanes)
          (length-filled (value_away old (lanes_at m old.lanes cut)) old.values
          (covers m old kept cut sent.cut) ∙ sym sent.entered.count)
          (λ n value at. sent.entered.values n value (has_value m old kept cut sent.cut n value at))
          sent.entered.total sent.entered.waiting

      pub delegate_event : (number : ℕ) (run : Run) (object : ObjectId) (op : O)
          (reading : Option ObjectId) (read : Option C) →
          HasEntered m old new number (record { run = run; op = op; read = read }) →
          run_of (shapes_of m before) (shape_of {C = C} m.own (Delegate object op reading)) ≡ Some run →
          number ≡ lane_of_set run.set.0 (length old.lanes) → IsRead reading read →
          IsItsEvent m before old new (Delegate object op reading)
      delegate_event number run object op reading read sent run_is number_is is_read =
          let waits = entered_core number (record { run = run; op = op; read = read }) sent in
          let lane_is : number ≡ lane_of_set run.set.0 (length (core m old cut).lanes) =
          number_is ∙ ap (lane_of_set run.set.0) (sym (count_at_cut m old.lanes cut sent.cut)) in
          record {
            cut = sent.cut;
            enabled = refl;
            leaves = waits
                ∙ ap₂ (λ lane was. record (core m old cut) {
                  lanes = with_entry lane (record { run = run; op = op; read = was })
                      (core m old cut).lanes;
                }) lane_is (sym (read_at waits reading is_read))
                ∙ ap (entered (core m old cut) op (value_read (core m old cut).state.values reading))
                (sym run_is);
          }
        where
          read_at : core m new cut
              ≡ record (core m old cut) {
                lanes = with_entry number (record { run = run; op = op; read = read })
                    (core m old cut).lanes;
              } →
              (reading : Option ObjectId) → IsRead reading read →
              value_read (core m old cut).state.values reading ≡ read
          read_at waits None is = sym is
          read_at waits (Some object) is =
              ap (λ (c : Core C O R). slice_get c.state.values object.0) (sym waits)
              ∙ has_at_core m new new_kept cut (least-is_cut new.lanes) object.0 is.0 (inl is.2)
              ∙ sym is.1

-- Calls, applied in an order, each moved out of its place.
use Rattle.std.proofs.Common.{◌≡◌, ℕ, zero, suc, ◌+◌, ◌<◌, ◌≤◌, Bool, true, false, cond, ◌||◌, Option, Some, None, List, [], ◌∷◌, ◌++◌, length, take, drop, get_or, fold, refl, sym, ap, ◌∙◌, subst, arith, set}
use Rattle.std.specs.Prelude.{◌==◌, nat_lt, slice_get, option_and_then}
use Rattle.std.specs.Option.{option_map}
use Rattle.std.proofs.lemmas.Bool.Decides.{nat_tests}
use Rattle.std.proofs.lemmas.List.{length-map, length-set, take_more, map-append}
use Rattle.std.proofs.lemmas.List.Folds.{list_any-append}
use Rattle.std.proofs.lemmas.List.Sums.{fold-append, sum_by-append}
use Rattle.std.proofs.lemmas.Option.{slice_get-map}
use Rattle.ss_base.specs.declared.ids.CallNo.{CallNo}
use Rattle.ss_base.specs.declared.ids.ObjectId.{ObjectId}
use Rattle.execution_definitions.specs.declared.refusal.Refusal.{Refusal}
use Rattle.execution_definitions.specs.declared.call.Call.{Call}
use Rattle.execution_definitions.specs.declared.call.Call.TheVariants.{Make, MakeFixed, Begin, Delegate, Write, Get, End, Total}
use Rattle.execution_definitions.specs.Shapes.{Shape}
use Rattle.execution_definitions.specs.Refusals.{breaks, refuse_if, if_reading, self_read}
use Rattle.execution_definitions.specs.Soundness.{refusal_at}
use Rattle.execution_definitions.specs.Meanings.{Meaning, number_given, shape_of, shapes_of}
use Rattle.execution_definitions.specs.Sequential.{State, initial_state, state_after}
use Rattle.execution_definitions.proofs.shapes.LawsLemmas.{first_break_is_least}
use Rattle.interleavings.specs.Merges.{is_among, times_among, state_after_place}
use Rattle.interleavings.proofs.shapes.HoldingLemmas.{accepted}
use Rattle.legal_merges.specs.Merging.{IsMerge, places}
use Rattle.legal_merges.specs.kept.Judging.{IsOther, ReadsAnother}
use Rattle.merge_laws.proofs.OrderLemmas.{times-here}
use Rattle.merge_laws.proofs.BegunLemmas.{false_true, present_times}
use Rattle.legal_merges.proofs.WayLemmas.{found, get_set_other}

either_false : (a b : Bool) → (a || b) ≡ false → (a ≡ false) × (b ≡ false)
either_false true b is = absurd cc
either_false false b is = (refl, is)

-- the places of an order, parted at one of them
pub order_parts : (order : List CallNo) (index : ℕ) (d : CallNo) → index < length order →
    places order ≡ places (take index order) ++ (get_or order index d).0 ∷ places (drop (suc index) order)
order_parts [] index d inside = absurd (omega arith)
order_parts (call ∷ order) zero d inside = refl
order_parts (call ∷ order) (suc index) d inside =
    ap (λ l. call.0 ∷ l) (order_parts order index d (omega arith))

module _ {C O R : Type 0} (m : Meaning C O R) (calls : List (Call C O)) where
  -- these are done: this is what they leave, and the other calls are still in their places
  pub record IsReplayedTo (now : List (Call C O)) (done : List ℕ) (state : State C R) : Type 0 where
    pub left : state ≡ fold (state_after_place m calls) (initial_state m) done
    pub count : length now ≡ length calls
    pub kept :
        (place : ℕ) → is_among done place ≡ false → slice_get now place ≡ slice_get calls place

  pub replayed-none : IsReplayedTo calls [] (initial_state m)
  replayed-none = record { left = refl; count = refl; kept = λ place absent. refl }

  pub replayed-push : (now : List (Call C O)) (done : List ℕ) (state new : State C R) (place : ℕ)
      (call other : Call C O) → IsReplayedTo now done state → slice_get calls place ≡ Some call →
      new ≡ state_after m state call →
      IsReplayedTo (set now place other) (done ++ place ∷ []) new
  replayed-push now done state new place call other is at after = record {
    left = after ∙ ap (λ s. state_after m s call) is.left
        ∙ sym (fold-append (state_after_place m calls) (initial_state m) done (place ∷ [])
        ∙ rw at refl);
    count = length-set now place other ∙ is.count;
    kept = λ p absent.
        let parts = either_false (is_among done p) (is_among (place ∷ []) p)
        (sym (list_any-append (λ (q : ℕ). q == p) done (place ∷ [])) ∙ absent) in
        get_set_other now place p other (elsewhere p parts.1) ∙ is.kept p parts.0;
  } where
    elsewhere : (p : ℕ) → ((place == p) || false) ≡ false → p ≡ place → ⊥
    elsewhere p is same =
        let e : (place == p) ≡ true = grind (arith, nat_tests) in
        false_true ((place == p) || false) is (ap (λ b. b || false) e)

  -- a call whose turn it is in a legal merge
  pub record IsTurnOf (now : List (Call C O)) (place : ℕ) : Type 0 where
    pub inside : place < length calls
    pub call : Call C O
    pub at : slice_get calls place ≡ Some call
    pub here : slice_get now place ≡ Some call
    pub reads : ReadsAnother call

  refused : (test : Bool) (refusal : Refusal) → test ≡ true → refuse_if test refusal ≡ None → ⊥
  refused true refusal is none = cc
  refused false refusal is none = cc

  other_number : (o : ℕ) (reading : Option ObjectId) →
      if_reading (number_given reading) (self_read o) ≡ None → IsOther o reading
  other_number o None none = tt
  other_number o (Some read) none = λ same.
      let e : (read.0 == o) ≡ true = grind (arith, nat_tests) in
      refused (read.0 == o) _ e none

  reads_another : (before : List Shape) (call : Call C O) → breaks before (shape_of m.own call) ≡ None →
      ReadsAnother call
  reads_another before (Make value by) ok = tt
  reads_another before (MakeFixed value) ok = tt
  reads_another before Begin ok = tt
  reads_another before (Delegate object op reading) ok =
      other_number object.0 reading
      (accepted before object.0 (m.own op) (number_given reading) ok).other
  reads_another before (Write object op) ok = tt
  reads_another before (Get object) ok = tt
  reads_another before End ok = tt
  reads_another before Total ok = tt

  module _ (n : ℕ) (order : List ℕ) (merge : IsMerge n (shapes_of m calls) order) where
    counted : length (shapes_of m calls) ≡ length calls
    counted = length-map calls (shape_of m.own)

    pub turn_of_call : (now : List (Call C O)) (done : List ℕ) (place : ℕ) (rest : List ℕ)
        (state : State C R) → order ≡ done ++ place ∷ rest → IsReplayedTo now done state →
        IsTurnOf now place
    turn_of_call now done place rest state is so_far = record {
      inside = inside;
      call = there.0;
      at = there.1;
      here = so_far.kept place fresh ∙ there.1;
      reads = reads_another (take place (shapes_of m calls)) there.0 ok;
    } where
      once : times_among order place ≡ 1 + times_among (done ++ rest) place
      once = ap (λ (l : List ℕ). times_among l place) is ∙ times-here done place rest

      inside : place < length calls
      inside = by (nat_lt place (length calls)) refl where
        by : (t : Bool) → nat_lt place (length calls) ≡ t → place < length calls
        by true e = grind (arith, nat_tests)
        by false e =
            let past : length (shapes_of m calls) ≤ place =
            subst (λ k. k ≤ place) (sym counted) (grind (arith, nat_tests)) in
            let none = merge.legal.no_other place past in
            let many = once in
            absurd (omega arith)

      there : (call : Call C O) × (slice_get calls place ≡ Some call)
      there = found calls place inside

      fresh : is_among done place ≡ false
      fresh = by (is_among done place) refl where
        by : (t : Bool) → is_among done place ≡ t → t ≡ false
        by true e =
            let one = merge.legal.each_once place (subst (λ k. place < k) (sym counted) inside) in
            let many = once in
            let some = present_times done place e in
            let more = sum_by-append (λ (x : ℕ). cond (x == place) 1 0) done rest in
            absurd (omega arith)
        by false e = refl

      ok : breaks (take place (shapes_of m calls)) (shape_of m.own there.0) ≡ None
      ok =
          let none : refusal_at (shapes_of m calls) place ≡ None =
          (first_break_is_least (shapes_of m calls)).none.0 merge.sound place in
          sym (ap (option_and_then (breaks (take place (shapes_of m calls))))
          (slice_get-map (shape_of m.own) calls place ∙ ap (option_map (shape_of m.own)) there.1))
          ∙ none

  -- the same of the order that is given
  pub turn_at : (n : ℕ) (order : List CallNo) → IsMerge n (shapes_of m calls) (places order) →
      (index : ℕ) (d : CallNo) → index < length order → (now : List (Call C O))
      (state : State C R) → IsReplayedTo now (places (take index order)) state →
      IsTurnOf now (get_or order index d).0
  turn_at n order merge index d inside now state so_far =
      turn_of_call n (places order) merge now (places (take index order)) (get_or order index d).0
      (places (drop (suc index) order)) state (order_parts order index d inside) so_far

  pub replayed-next : (order : List CallNo) (index : ℕ) (d : CallNo) → index < length order →
      (now : List (Call C O)) (state new : State C R) (other : Call C O)
      (turn : IsTurnOf now (get_or order index d).0) →
      IsReplayedTo now (places (take index order)) state → new ≡ state_after m state turn.call →
      IsReplayedTo (set now (get_or order index d).0 other) (places (take (index + 1) order)) new
  replayed-next order index d inside now state new other turn so_far after =
      let place = (get_or order index d).0 in
      let with_it : places (take (index + 1) order) ≡ places (take index order) ++ place ∷ [] =
      ap places (take_more order index d inside)
      ∙ map-append (λ (c : CallNo). c.0) (take index order) (get_or order index d ∷ []) in
      subst (λ (l : List ℕ). IsReplayedTo (set now place other) l new) (sym with_it)
      (replayed-push now (places (take index order)) state new place turn.call other so_far turn.at
      after)

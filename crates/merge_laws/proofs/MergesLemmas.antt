-- Every legal merge leaves what the list leaves.
--
-- The least place that is left moves to the front, one after the other.
use Rattle.std.proofs.Common.{◌≡◌, ℕ, suc, ◌+◌, ◌-◌, ◌<◌, ◌≤◌, ◌≢◌, Bool, true, false, Option, Some, None, List, [], ◌∷◌, ◌++◌, length, refl, sym, ap, ◌∙◌, subst, arith, ⊎_elim, append_assoc, length-append}
use Rattle.std.specs.Prelude.{slice_get, fold}
use Rattle.std.proofs.lemmas.List.{map-append, length-map}
use Rattle.ss_base.specs.declared.ids.ObjectId.{ObjectId}
use Rattle.execution_definitions.specs.Shapes as shape
use Rattle.execution_definitions.specs.Shapes.{Shape}
use Rattle.execution_definitions.specs.Sets.{object_count, set_of, lane_of_set}
use Rattle.execution_definitions.specs.Refusals.{if_reading, unknown_object}
use Rattle.execution_definitions.proofs.programs.SequentialLemmas.{shapes_of-push}
use Rattle.interleavings.proofs.programs.ObjectsLemmas.{objects_counted}
use Rattle.execution_definitions.proofs.shapes.RefusalsLemmas.{known}
use Rattle.execution_definitions.specs.declared.call.Call.{Call}
use Rattle.execution_definitions.specs.declared.call.Call.TheVariants.{Make, MakeFixed, Begin, Delegate, Write, Get, End, Total}
use Rattle.execution_definitions.specs.Meanings.{Meaning, number_given, shape_of, shapes_of}
use Rattle.execution_definitions.specs.Sequential.{State, initial_state, state_after}
use Rattle.interleavings.specs.Merges.{must_stand_before, is_among, state_after_some, state_after_place}
use Rattle.merge_laws.specs.Theorem.{MergesLeaveTheSame}
use Rattle.execution_definitions.proofs.lists.ListLemmas.{slice_get-append_seam}
use Rattle.interleavings.proofs.programs.OperatedLemmas.{IsOther, JoinsInAnyOrder}
use Rattle.merge_laws.proofs.MoveLemmas.{IsApart, IsApartSome, AreApart, ReadsWithin, delegation_moves}
use Rattle.interleavings.proofs.shapes.HoldingLemmas.{IsSoundAfter, sound_after, accepted, holds_from, IsOtherNumber, IsShapeApart, is_delegate, IsFound, find_apart}
use Rattle.merge_laws.proofs.OrderLemmas.{part_at, part_among, absent_before, present, IsRest, rest_within, rest_behind}
use Rattle.merge_laws.proofs.PlaceLemmas.{IsSplit, split_at, overtakes_none, IsBetween, barrier_stands, waits_stands}

other_object : (o : ℕ) (reading : Option ObjectId) → IsOtherNumber o (number_given reading) →
    IsOther o reading
other_object o None other = tt
other_object o (Some read) other = other

-- what an order says where a place stands too late
too_late : (among : Bool) → among ≡ false → among ≡ true → ⊥
too_late among absent present = cc

module _ {C O : Type 0} (own : O → ℕ) where
  -- apart by their shapes is apart
  apart_shape : (o : ObjectId) (reading : Option ObjectId) (call : Call C O) →
      IsShapeApart o.0 (number_given reading) (shape_of own call) → IsApart o reading call
  apart_shape o reading (Make value by) apart = tt
  apart_shape o reading (MakeFixed value) apart = tt
  apart_shape o reading Begin apart = tt
  apart_shape o reading (Delegate x op r) apart =
      (apart.0, other_object o.0 r apart.1, other_object x.0 reading apart.2)
  apart_shape o reading (Write x op) apart = (apart.0, other_object x.0 reading apart.1)
  apart_shape o reading (Get x) apart = tt
  apart_shape o reading End apart = tt
  apart_shape o reading Total apart = tt

module _ {C O : Type 0} where
  -- all are apart where each is
  all_apart : (calls : List (Call C O)) (o : ObjectId) (reading : Option ObjectId)
      (places : List ℕ) →
      ((front : List ℕ) (place : ℕ) (rest : List ℕ) → places ≡ front ++ place ∷ rest →
      IsApartSome o reading (slice_get calls place)) → AreApart calls o reading places
  all_apart calls o reading [] each = tt
  all_apart calls o reading (place ∷ places) each = (
    each [] place places refl,
    all_apart calls o reading places
        (λ front second rest is. each (place ∷ front) second rest (ap (λ l. place ∷ l) is)),
  )

reads_within : (before : List Shape) (reading : Option ObjectId) (count : ℕ) →
    object_count before ≤ count →
    if_reading (number_given reading) (unknown_object before) ≡ None → ReadsWithin count reading
reads_within before None count most none = tt
reads_within before (Some read) count most none =
    let inside = known before read.0 none in omega arith

module _ {C O R : Type 0} (m : Meaning C O R) where
  abbrev shapes : List (Call C O) → List Shape
  shapes calls = shapes_of m calls

  module _ (any_order : JoinsInAnyOrder m) (n : ℕ) (calls : List (Call C O)) where
    module _ (before : List (Call C O)) (call : Call C O) (later : List (Call C O))
        (is : calls ≡ before ++ call ∷ later)
        (sound : IsSoundAfter (shapes before) (shapes (call ∷ later))) (front rest : List ℕ)
        (legal : IsRest n (shapes calls) (length before) (front ++ length before ∷ rest))
        (absent : is_among front (length before) ≡ false) where
      shapes_are : shapes calls ≡ shapes before ++ shape_of m.own call ∷ shapes later
      shapes_are = ap shapes is ∙ map-append (shape_of m.own) before (call ∷ later)

      count : length (shapes before) ≡ length before
      count = length-map before (shape_of m.own)

      here_is : slice_get calls (length before) ≡ Some call
      here_is = ap (λ (l : List (Call C O)). slice_get l (length before)) is
          ∙ slice_get-append_seam before call later

      -- what stands before this place in the order need not stand behind it
      early : (first : List ℕ) (place : ℕ) (last : List ℕ) → front ≡ first ++ place ∷ last →
          must_stand_before n (shapes calls) (length before) place ≡ true → ⊥
      early first place last at must =
          let whole : front ++ length before ∷ rest
          ≡ first ++ place ∷ (last ++ length before ∷ rest) =
          ap (λ l. l ++ length before ∷ rest) at
          ∙ append_assoc first (place ∷ last) (length before ∷ rest) in
          too_late (is_among first (length before))
          (absent_before first (place ∷ last) (length before)
          (ap (λ l. is_among l (length before)) (sym at) ∙ absent))
          (legal.keeps first place (last ++ length before ∷ rest) whole (length before)
          (omega arith) must)

      -- nor need it stand behind another place that must stand behind it
      early_by : (first : List ℕ) (place : ℕ) (last : List ℕ) → front ≡ first ++ place ∷ last →
          (between : ℕ) → length before ≤ between →
          must_stand_before n (shapes calls) (length before) between ≡ true →
          must_stand_before n (shapes calls) between place ≡ true → ⊥
      early_by first place last at between low must must_too =
          let whole : front ++ length before ∷ rest
          ≡ first ++ place ∷ (last ++ length before ∷ rest) =
          ap (λ l. l ++ length before ∷ rest) at
          ∙ append_assoc first (place ∷ last) (length before ∷ rest) in
          let parted = part_among first between (legal.keeps first place
          (last ++ length before ∷ rest) whole between low must_too) in
          let at_between : front ≡ parted.front ++ between ∷ (parted.rest ++ place ∷ last) =
          at ∙ ap (λ l. l ++ place ∷ last) parted.is
          ∙ append_assoc parted.front (between ∷ parted.rest) (place ∷ last) in
          early parted.front between (parted.rest ++ place ∷ last) at_between must

      -- a place that stands before this one is later in the list
      later_place : (first : List ℕ) (place : ℕ) (last : List ℕ) → front ≡ first ++ place ∷ last →
          (length before < place) × (place < length calls)
      later_place first place last at =
          let whole : front ++ length before ∷ rest
          ≡ first ++ place ∷ (last ++ length before ∷ rest) =
          ap (λ l. l ++ length before ∷ rest) at
          ∙ append_assoc first (place ∷ last) (length before ∷ rest) in
          let within = rest_within n (shapes calls) (length before) _ legal first place
          (last ++ length before ∷ rest) whole in
          let low : length before ≤ place = within.0 in
          let high : place < length (shapes calls) = within.1 in
          let all : length (shapes calls) ≡ length calls = length-map calls (shape_of m.own) in
          let differ : length before ≢ place = λ same.
          too_late (is_among front (length before)) absent
          (ap (λ (l : List ℕ). is_among l (length before)) at
          ∙ ap (λ p. is_among (first ++ place ∷ last) p) same
          ∙ present first place last) in
          (omega arith, omega arith)

    -- a call of the program context is the first that is left
    plain_moves : (before : List (Call C O)) (call : Call C O) (later : List (Call C O))
        (is : calls ≡ before ++ call ∷ later) →
        (sound : IsSoundAfter (shapes before) (shapes (call ∷ later))) → (front rest : List ℕ) →
        (legal : IsRest n (shapes calls) (length before) (front ++ length before ∷ rest)) →
        (absent : is_among front (length before) ≡ false) → (state : State C R) →
        is_delegate (shape_of m.own call) ≡ false →
        fold (state_after_place m calls) state (front ++ length before ∷ rest)
        ≡ fold (state_after_place m calls) (state_after m state call) (front ++ rest)
    plain_moves before call later is sound [] rest legal absent state none =
        ap (λ (c : Option (Call C O)). fold (state_after_place m calls)
        (state_after_some m state c) rest)
        (here_is before call later is sound [] rest legal absent)
    plain_moves before call later is sound (place ∷ front) rest legal absent state none =
        let after = later_place before call later is sound (place ∷ front) rest legal absent
        [] place front refl in
        let count : length (shapes before) ≡ length before = length-map before (shape_of m.own) in
        let low : length (shapes before) < place = omega arith in
        absurd (early before call later is sound (place ∷ front) rest legal absent
        [] place front refl
        (subst (λ p. must_stand_before n (shapes calls) p place ≡ true) count
        (overtakes_none n (shapes calls) (shapes before) (shape_of m.own call) (shapes later)
        (shapes_are before call later is sound (place ∷ front) rest legal absent) none place low)))

    module _ (before : List (Call C O)) (o : ObjectId) (op : O) (r : Option ObjectId)
        (later : List (Call C O)) (is : calls ≡ before ++ Delegate o op r ∷ later)
        (sound : IsSoundAfter (shapes before) (shapes (Delegate o op r ∷ later)))
        (front rest : List ℕ)
        (legal : IsRest n (shapes calls) (length before) (front ++ length before ∷ rest))
        (absent : is_among front (length before) ≡ false) where
      abbrev call_shape : Shape
      call_shape = shape.delegate o.0 (m.own op) (number_given r)

      abbrev its_set : ℕ
      its_set = set_of (shapes before) o.0 (m.own op)

      abbrev its_lane : ℕ
      its_lane = lane_of_set its_set n

      abbrev its_count : length (shapes before) ≡ length before
      its_count = length-map before (shape_of m.own)

      abbrev these : shapes calls ≡ shapes before ++ call_shape ∷ shapes later
      these = shapes_are before (Delegate o op r) later is sound front rest legal absent

      -- the call at a later place waits, or one of the program context between, or it is apart
      found_at : (X : List (Call C O)) (here : Call C O) (Y : List (Call C O)) →
          later ≡ X ++ here ∷ Y →
          IsFound n (shapes before ++ call_shape ∷ []) o.0 (number_given r) its_set (shapes X)
          (shape_of m.own here)
      found_at X here Y parted =
          find_apart n o.0 (number_given r) its_set (shapes before ++ call_shape ∷ []) (shapes X)
          (shape_of m.own here) (shapes Y)
          (holds_from (shapes before) o.0 (m.own op) (number_given r) sound.0)
          (subst (λ l. IsSoundAfter (shapes before ++ call_shape ∷ []) l)
          (ap shapes parted ∙ map-append (shape_of m.own) X (here ∷ Y)) sound.1)

      apart_at : (X : List (Call C O)) (here : Call C O) (Y : List (Call C O)) →
          later ≡ X ++ here ∷ Y → (first : List ℕ) (place : ℕ) (last : List ℕ) →
          front ≡ first ++ place ∷ last →
          place ≡ length (shapes before) + suc (length (shapes X)) → IsApart o r here
      apart_at X here Y parted first place last at here_is =
          let shapes_parted : shapes later ≡ shapes X ++ shape_of m.own here ∷ shapes Y =
          ap shapes parted ∙ map-append (shape_of m.own) X (here ∷ Y) in
          ⊎_elim (λ b. absurd (between_case shapes_parted (barrier_stands n (shapes calls)
          (shapes before) call_shape (shapes later) these (shapes X) (shape_of m.own here)
          (shapes Y) shapes_parted its_lane refl b)))
          (λ more. ⊎_elim (λ waits. absurd (waits_case (waits_stands n (shapes calls)
          (shapes before) call_shape (shapes later) these (shapes X) (shape_of m.own here)
          (shapes Y) shapes_parted its_lane refl waits)))
          (λ apart. apart_shape m.own o r here apart) more)
          (found_at X here Y parted) where
            between_case : shapes later ≡ shapes X ++ shape_of m.own here ∷ shapes Y →
                IsBetween n (shapes calls) (length (shapes before))
                (length (shapes before) + suc (length (shapes X))) → ⊥
            between_case shapes_parted q =
                early_by before (Delegate o op r) later is sound front rest legal absent
                first place last at q.between
                (subst (λ p. p ≤ q.between) its_count q.low)
                (subst (λ p. must_stand_before n (shapes calls) p q.between ≡ true) its_count
                q.first)
                (subst (λ p. must_stand_before n (shapes calls) q.between p ≡ true) (sym here_is)
                q.second)

            waits_case : must_stand_before n (shapes calls) (length (shapes before))
                (length (shapes before) + suc (length (shapes X))) ≡ true → ⊥
            waits_case must =
                early before (Delegate o op r) later is sound front rest legal absent
                first place last at
                (subst (λ p. must_stand_before n (shapes calls) p place ≡ true) its_count
                (subst (λ p. must_stand_before n (shapes calls) (length (shapes before)) p ≡ true)
                (sym here_is) must))

      abbrev at_split : (X : List (Call C O)) (here : Call C O) (Y : List (Call C O)) →
          later ≡ X ++ here ∷ Y → (place : ℕ) → place ≡ length before + suc (length X) →
          slice_get calls place ≡ Some here
      at_split X here Y parted place count =
          ap (λ p. slice_get calls p) (count ∙ sym (length-append before (Delegate o op r ∷ X)))
          ∙ ap (λ (l : List (Call C O)). slice_get l (length (before ++ Delegate o op r ∷ X)))
          (is ∙ ap (λ (l : List (Call C O)). before ++ Delegate o op r ∷ l) parted
          ∙ sym (append_assoc before (Delegate o op r ∷ X) (here ∷ Y)))
          ∙ slice_get-append_seam (before ++ Delegate o op r ∷ X) here Y

      -- what stands before a delegation in the order is apart from it
      apart_split : (first : List ℕ) (place : ℕ) (last : List ℕ) →
          front ≡ first ++ place ∷ last → (k : ℕ) → place ≡ length before + suc k →
          IsSplit later k → IsApartSome o r (slice_get calls place)
      apart_split first place last at k is_k s =
          let count_X : length (shapes s.front) ≡ length s.front =
          length-map s.front (shape_of m.own) in
          let count : length (shapes before) ≡ length before = its_count in
          let front_count = s.count in
          subst (IsApartSome o r) (sym (at_split s.front s.here s.rest s.is place (omega arith)))
          (apart_at s.front s.here s.rest s.is first place last at (omega arith))

      delegate_apart : (first : List ℕ) (place : ℕ) (last : List ℕ) →
          front ≡ first ++ place ∷ last → IsApartSome o r (slice_get calls place)
      delegate_apart first place last at =
          let low = later_place before (Delegate o op r) later is sound front rest legal absent
          first place last at in
          let all : length calls ≡ length before + suc (length later) =
          ap length is ∙ length-append before (Delegate o op r ∷ later) in
          apart_split first place last at (place - (length before + 1)) (omega arith)
          (split_at later (place - (length before + 1)) (omega arith))

      delegate_moves : (state : State C R) → object_count (shapes before) ≤ length state.values →
          fold (state_after_place m calls) state (front ++ length before ∷ rest)
          ≡ fold (state_after_place m calls) (state_after m state (Delegate o op r))
          (front ++ rest)
      delegate_moves state most =
          let told = accepted (shapes before) o.0 (m.own op) (number_given r) sound.0 in
          let inside : o.0 < object_count (shapes before) = told.known in
          delegation_moves m any_order o op r calls (length before) front rest state
          (here_is before (Delegate o op r) later is sound front rest legal absent)
          (omega arith)
          (reads_within (shapes before) r (length state.values) most told.reading_known)
          (all_apart calls o r front delegate_apart)

    -- the first call that is left moves to the front
    first_moves : (before : List (Call C O)) (call : Call C O) (later : List (Call C O))
        (is : calls ≡ before ++ call ∷ later) →
        (sound : IsSoundAfter (shapes before) (shapes (call ∷ later))) → (front rest : List ℕ) →
        (legal : IsRest n (shapes calls) (length before) (front ++ length before ∷ rest)) →
        (absent : is_among front (length before) ≡ false) → (state : State C R) →
        object_count (shapes before) ≤ length state.values →
        fold (state_after_place m calls) state (front ++ length before ∷ rest)
        ≡ fold (state_after_place m calls) (state_after m state call) (front ++ rest)
    first_moves before (Delegate o op r) later is sound front rest legal absent state most =
        delegate_moves before o op r later is sound front rest legal absent state most
    first_moves before (Make value by) later is sound front rest legal absent state most =
        plain_moves before (Make value by) later is sound front rest legal absent state refl
    first_moves before (MakeFixed value) later is sound front rest legal absent state most =
        plain_moves before (MakeFixed value) later is sound front rest legal absent state refl
    first_moves before Begin later is sound front rest legal absent state most =
        plain_moves before Begin later is sound front rest legal absent state refl
    first_moves before (Write o op) later is sound front rest legal absent state most =
        plain_moves before (Write o op) later is sound front rest legal absent state refl
    first_moves before (Get o) later is sound front rest legal absent state most =
        plain_moves before (Get o) later is sound front rest legal absent state refl
    first_moves before End later is sound front rest legal absent state most =
        plain_moves before End later is sound front rest legal absent state refl
    first_moves before Total later is sound front rest legal absent state most =
        plain_moves before Total later is sound front rest legal absent state refl

    -- no place is left where no call is
    nothing_left : (before : List (Call C O)) → calls ≡ before ++ [] → (order : List ℕ) →
        IsRest n (shapes calls) (length before) order → order ≡ []
    nothing_left before is [] legal = refl
    nothing_left before is (place ∷ order) legal =
        let within = rest_within n (shapes calls) (length before) _ legal [] place order refl in
        let low : length before ≤ place = within.0 in
        let high : place < length (shapes calls) = within.1 in
        let all : length (shapes calls) ≡ length calls = length-map calls (shape_of m.own) in
        let e = ap length is ∙ length-append before [] in
        absurd (omega arith)

    -- what is left leaves the same in this order
    replay_rest : (before rest : List (Call C O)) (order : List ℕ) (state : State C R) →
        calls ≡ before ++ rest → IsSoundAfter (shapes before) (shapes rest) →
        object_count (shapes before) ≤ length state.values →
        IsRest n (shapes calls) (length before) order →
        fold (state_after_place m calls) state order ≡ fold (state_after m) state rest
    replay_rest before [] order state is sound most legal =
        ap (λ (l : List ℕ). fold (state_after_place m calls) state l)
        (nothing_left before is order legal)
    replay_rest before (call ∷ later) order state is sound most legal =
        let all : length calls ≡ length before + suc (length later) =
        ap length is ∙ length-append before (call ∷ later) in
        let all_shapes : length (shapes calls) ≡ length calls =
        length-map calls (shape_of m.own) in
        let within : length before < length (shapes calls) = omega arith in
        let parted = part_at order (length before)
        (legal.each_once (length before) (omega arith) within) in
        let legal_parted = subst (λ l. IsRest n (shapes calls) (length before) l) parted.is legal in
        let one_more : length before + 1 ≡ length (before ++ call ∷ []) =
        let e = length-append before (call ∷ []) in omega arith in
        let more = shapes_of-push m before call in
        ap (λ (l : List ℕ). fold (state_after_place m calls) state l) parted.is
        ∙ first_moves before call later is sound parted.front parted.rest legal_parted
        parted.absent state most
        ∙ replay_rest (before ++ call ∷ []) later (parted.front ++ parted.rest)
        (state_after m state call) (is ∙ sym (append_assoc before (call ∷ []) later))
        (subst (λ l. IsSoundAfter l (shapes later)) (sym more) sound.1)
        (subst (λ l. object_count l ≤ length (state_after m state call).values) (sym more)
        (objects_counted m before call state most))
        (subst (λ d. IsRest n (shapes calls) d (parted.front ++ parted.rest)) one_more
        (rest_behind n (shapes calls) (length before) parted.front parted.rest within
        legal_parted))

  -- every legal merge of a sound list leaves what the list leaves
  pub merges_leave_the_same : JoinsInAnyOrder m → MergesLeaveTheSame m
  merges_leave_the_same any_order n calls order sound legal =
      replay_rest any_order n calls [] calls order (initial_state m) refl
      (sound_after [] (shapes calls) sound) (omega arith)
      (record {
        each_once = λ place low high. legal.each_once place high;
        none_done = λ place low. absurd (omega arith);
        none_past = λ place high. legal.no_other place high;
        keeps = λ front place rest is first low must. legal.keeps front place rest is first must;
      })

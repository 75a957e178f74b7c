-- When have lanes come on, and what is entered where an operation is sent?
--
-- One lane of a cut is exchanged for another, and what all have is compared.
use Rattle.std.proofs.Common.{◌≡◌, ℕ, zero, suc, ◌≤◌, Bool, true, false, ◌⊎◌, inl, inr, Option, Some, None, List, [], ◌∷◌, ◌++◌, length, map, refl, sym, ap, ◌∙◌, subst, arith}
use Rattle.std.specs.Prelude.{◌==◌, slice_get, slice_set, fold}
use Rattle.std.proofs.lemmas.Bool.{eqb-true}
use Rattle.std.proofs.lemmas.Option.{same_Some}
use Rattle.class_laws.specs.Laws.{ReducibleLaws}
use Rattle.execution_definitions.specs.Meanings.{Meaning}
use Rattle.interleavings.specs.Machines.{Entry, with_entry}
use Rattle.interleavings.proofs.programs.OperatedLemmas.{slice_get-set_other}
use Rattle.lane_core.specs.Views.{LaneView, LanesView}
use Rattle.lane_core.specs.Cuts.{LaneAtCut, IsCut, lane_at, lanes_at}
use Rattle.lane_core.specs.Cores.{value_in, with_total_of}
use Rattle.lane_core.specs.Events.{HasValue, IsInLane, AreSame, HaveComeOn, AreEntered}
use Rattle.lane_core.proofs.StepLemmas.{are_apart}
use Rattle.lane_core.proofs.LanesLemmas.{IsWithin, waiting_in, swap}
use Rattle.lane_core.proofs.EventLemmas.{get-set}

module _ {C O R : Type 0} (m : Meaning C O R) where
  -- ---- lanes come on, and on again

  pub same_again : (a b c : LanesView C O R) (x y z : List (LaneAtCut C O R)) →
      AreSame m a b x y → AreSame m b c y z → AreSame m a c x z
  same_again a b c x y z first second = record {
    count = second.count ∙ first.count;
    values = λ n value has. second.values n value (first.values n value has);
    total = second.total ∙ first.total;
    waiting = second.waiting ∙ first.waiting;
  }

  pub come_on-itself : (view : LanesView C O R) → HaveComeOn m view view
  come_on-itself view = record {
    each = λ cut is. (
      is,
      record { count = refl; values = λ n value has. has; total = refl; waiting = refl },
    );
  }

  pub come_on-again : (a b c : LanesView C O R) → HaveComeOn m a b → HaveComeOn m b c →
      HaveComeOn m a c
  come_on-again a b c first second = record {
    each = λ cut is.
        let later = second.each cut is in
        let early = first.each cut later.0 in
        (early.0, same_again a b c _ _ _ early.1 later.1);
  }

  -- ---- one lane of a cut is exchanged

  -- cuts of the new lane are cuts of the old one
  pub record IsPut (lanes : List (LaneView C O R)) (cut : List ℕ) (number : ℕ)
      (a b : LaneView C O R) : Type 0 where
    pub runs : ℕ
    pub within : IsWithin b runs
    pub is_cut : IsCut lanes cut
    pub here : slice_get (lanes_at m lanes cut) number ≡ Some (lane_at m a runs)
    pub put :
        lanes_at m (slice_set lanes number b) cut
        ≡ slice_set (lanes_at m lanes cut) number (lane_at m b runs)

  pub put_lane : (lanes : List (LaneView C O R)) (cut : List ℕ) (number : ℕ)
      (a b : LaneView C O R) → slice_get lanes number ≡ Some a →
      ((runs : ℕ) → IsWithin b runs → IsWithin a runs) →
      IsCut (slice_set lanes number b) cut → IsPut lanes cut number a b
  put_lane [] cut number a b there narrows is = absurd cc
  put_lane (first ∷ lanes) [] zero a b there narrows is = absurd is
  put_lane (first ∷ lanes) [] (suc number) a b there narrows is = absurd is
  put_lane (first ∷ lanes) (runs ∷ cut) zero a b there narrows is =
      let within : IsWithin b runs = record { least = is.0; most = is.1 } in
      let same = same_Some first a there in
      let old : IsWithin first runs =
      subst (λ lane. IsWithin lane runs) (sym same) (narrows runs within) in
      record {
        runs = runs;
        within = within;
        is_cut = (old.least, old.most, is.2);
        here = ap (λ lane. Some (lane_at m lane runs)) same;
        put = refl;
      }
  put_lane (first ∷ lanes) (runs ∷ cut) (suc number) a b there narrows is =
      let rest = put_lane lanes cut number a b there narrows is.2 in
      record {
        runs = rest.runs;
        within = rest.within;
        is_cut = (is.0, is.1, rest.is_cut);
        here = rest.here;
        put = ap (λ rest. lane_at m first runs ∷ rest) rest.put;
      }

  -- another lane is where it was
  pub other_lane : (lanes : List (LaneAtCut C O R)) (number k : ℕ) (b lane : LaneAtCut C O R) →
      (k == number) ≡ false → slice_get lanes k ≡ Some lane →
      slice_get (slice_set lanes number b) k ≡ Some lane
  other_lane lanes number k b lane differs at =
      slice_get-set_other lanes number k b (λ same. are_apart k number differs (sym same)) ∙ at

  waiting_set : (lanes : List (LaneAtCut C O R)) (number : ℕ) (a b : LaneAtCut C O R) →
      slice_get lanes number ≡ Some a → waiting_in m b ≡ waiting_in m a →
      map (waiting_in m) (slice_set lanes number b) ≡ map (waiting_in m) lanes
  waiting_set [] number a b here same = absurd cc
  waiting_set (lane ∷ lanes) zero a b here same =
      ap (λ entries. entries ∷ map (waiting_in m) lanes)
      (same ∙ ap (waiting_in m) (sym (same_Some lane a here)))
  waiting_set (lane ∷ lanes) (suc number) a b here same =
      ap (λ rest. waiting_in m lane ∷ rest) (waiting_set lanes number a b here same)

  waiting_entered : (lanes : List (LaneAtCut C O R)) (number : ℕ) (a b : LaneAtCut C O R)
      (e : Entry C O) → slice_get lanes number ≡ Some a →
      waiting_in m b ≡ waiting_in m a ++ e ∷ [] →
      map (waiting_in m) (slice_set lanes number b)
      ≡ with_entry number e (map (waiting_in m) lanes)
  waiting_entered [] number a b e here same = absurd cc
  waiting_entered (lane ∷ lanes) zero a b e here same =
      ap (λ entries. entries ∷ map (waiting_in m) lanes)
      (same ∙ ap (λ (l : LaneAtCut C O R). waiting_in m l ++ e ∷ []) (sym (same_Some lane a here)))
  waiting_entered (lane ∷ lanes) (suc number) a b e here same =
      ap (λ rest. waiting_in m lane ∷ rest) (waiting_entered lanes number a b e here same)

  total_set : (total : R) (lanes : List (LaneAtCut C O R)) (number : ℕ) (a b : LaneAtCut C O R) →
      slice_get lanes number ≡ Some a → b.store.total ≡ a.store.total →
      fold (with_total_of m) total (slice_set lanes number b) ≡ fold (with_total_of m) total lanes
  total_set total [] number a b here same = absurd cc
  total_set total (lane ∷ lanes) zero a b here same =
      ap (λ t. fold (with_total_of m) (m.join total t) lanes)
      (same ∙ ap (λ (l : LaneAtCut C O R). l.store.total) (sym (same_Some lane a here)))
  total_set total (lane ∷ lanes) (suc number) a b here same =
      total_set (m.join total lane.store.total) lanes number a b here same

  -- ---- a lane that comes home

  -- where a lane has come to this, its objects come home, and the others stay where they are
  pub record ComeHome (old new : LanesView C O R) (before : List (LaneAtCut C O R)) (number : ℕ)
      (a : LaneAtCut C O R) : Type 0 where
    pub count : length new.values ≡ length old.values
    pub home :
        (n : ℕ) (value : C) → slice_get old.values n ≡ Some (Some value) →
        slice_get new.values n ≡ Some (Some value)
    pub comes :
        (n : ℕ) (value : C) → value_in n a ≡ Some value →
        slice_get new.values n ≡ Some (Some value)
    pub others :
        (n k : ℕ) (lane : LaneAtCut C O R) (value : C) → (k == number) ≡ false →
        slice_get before k ≡ Some lane → value_in n lane ≡ Some value →
        slice_get new.values n ≡ Some None
    pub total : new.total ≡ m.join old.total a.store.total

  module _ (laws : ReducibleLaws m.unit m.join) where
    -- what a lane contributed is at home, and no more in the lane
    total_home : (total : R) (lanes : List (LaneAtCut C O R)) (number : ℕ) (a b : LaneAtCut C O R) →
        slice_get lanes number ≡ Some a → b.store.total ≡ m.unit →
        fold (with_total_of m) (m.join total a.store.total) (slice_set lanes number b)
        ≡ fold (with_total_of m) total lanes
    total_home total [] number a b here none = absurd cc
    total_home total (lane ∷ lanes) zero a b here none =
        ap (λ t. fold (with_total_of m) (m.join (m.join total a.store.total) t) lanes) none
        ∙ ap (λ t. fold (with_total_of m) t lanes) (laws.unit_of_join total a.store.total)
        ∙ ap (λ (l : LaneAtCut C O R). fold (with_total_of m) (m.join total l.store.total) lanes)
        (sym (same_Some lane a here))
    total_home total (lane ∷ lanes) (suc number) a b here none =
        ap (λ t. fold (with_total_of m) t (slice_set lanes number b))
        (swap m laws total a.store.total lane.store.total)
        ∙ total_home (m.join total lane.store.total) lanes number a b here none

    pub home_put : (old new : LanesView C O R) (before : List (LaneAtCut C O R)) (number : ℕ)
        (a b : LaneAtCut C O R) → slice_get before number ≡ Some a →
        ComeHome old new before number a → b.store.total ≡ m.unit →
        waiting_in m a ≡ [] → waiting_in m b ≡ [] →
        AreSame m old new before (slice_set before number b)
    home_put old new before number a b here come none done bare = record {
      count = come.count;
      values = λ n value has. still n value has;
      total = ap (λ t. fold (with_total_of m) t (slice_set before number b)) come.total
          ∙ total_home old.total before number a b here none;
      waiting = waiting_set before number a b here (bare ∙ sym done);
    } where
      moved : (n : ℕ) (value : C) (there : IsInLane before n value) (is : Bool) →
          (there.number == number) ≡ is →
          HasValue new.values (slice_set before number b) n value
      moved n value there true is =
          let e = eqb-true there.number number is in
          let lane : there.lane ≡ a =
          same_Some there.lane a (sym there.at ∙ ap (slice_get before) e ∙ here) in
          inl (come.comes n value (ap (value_in n) (sym lane) ∙ there.has))
      moved n value there false is =
          inr (
            come.others n there.number there.lane value is there.at there.has,
            record {
              number = there.number;
              lane = there.lane;
              at = other_lane before number there.number b there.lane is there.at;
              has = there.has;
            },
          )

      still : (n : ℕ) (value : C) → HasValue old.values before n value →
          HasValue new.values (slice_set before number b) n value
      still n value (inl home) = inl (come.home n value home)
      still n value (inr (none, there)) = moved n value there (there.number == number) refl

-- ---- an operation is sent to a lane

module _ {C O R : Type 0} (m : Meaning C O R) where
  -- a lane took in an entry, which is the last that waits
  pub record TakesIn (a b : LaneAtCut C O R) (e : Entry C O) : Type 0 where
    pub values : (n : ℕ) (value : C) → value_in n a ≡ Some value → value_in n b ≡ Some value
    pub total : b.store.total ≡ a.store.total
    pub waiting : waiting_in m b ≡ waiting_in m a ++ e ∷ []

  in_lane_entered : (lanes : List (LaneAtCut C O R)) (number : ℕ) (a b : LaneAtCut C O R)
      (e : Entry C O) (n : ℕ) (value : C) → slice_get lanes number ≡ Some a → TakesIn a b e →
      IsInLane lanes n value → IsInLane (slice_set lanes number b) n value
  in_lane_entered lanes number a b e n value here entered there =
      by (there.number == number) refl
    where
      by : (is : Bool) → (there.number == number) ≡ is → IsInLane (slice_set lanes number b) n value
      by true is =
          let same = eqb-true there.number number is in
          let lane : there.lane ≡ a =
          same_Some there.lane a (sym there.at ∙ ap (slice_get lanes) same ∙ here) in
          record {
            number = number;
            lane = b;
            at = get-set lanes number a b here;
            has = entered.values n value (ap (value_in n) (sym lane) ∙ there.has);
          }
      by false is = record {
        number = there.number;
        lane = there.lane;
        at = other_lane m lanes number there.number b there.lane is there.at;
        has = there.has;
      }

  module _ (old new : LanesView C O R) (before : List (LaneAtCut C O R)) (number : ℕ)
      (a b : LaneAtCut C O R) (e : Entry C O) (here : slice_get before number ≡ Some a)
      (entered : TakesIn a b e) (total : new.total ≡ old.total)
    where
      entered_with : length new.values ≡ length old.values →
          ((n : ℕ) (value : C) → HasValue old.values before n value →
          HasValue new.values (slice_set before number b) n value) →
          AreEntered m old new before (slice_set before number b) number e
      entered_with count values = record {
        count = count;
        values = values;
        total = ap (λ t. fold (with_total_of m) t (slice_set before number b)) total
            ∙ total_set m old.total before number a b here entered.total;
        waiting = waiting_entered m before number a b e here entered.waiting;
      }

      -- its object is in the lane already
      pub follow_put : new.values ≡ old.values →
          AreEntered m old new before (slice_set before number b) number e
      follow_put same = entered_with (ap length same) still where
        still : (n : ℕ) (value : C) → HasValue old.values before n value →
            HasValue new.values (slice_set before number b) n value
        still n value (inl home) = inl (ap (λ xs. slice_get xs n) same ∙ home)
        still n value (inr (none, there)) =
            inr (
              ap (λ xs. slice_get xs n) same ∙ none,
              in_lane_entered before number a b e n value here entered there,
            )

      -- its object goes along
      pub carry_put : (object : ℕ) (carried : C) → length new.values ≡ length old.values →
          slice_get old.values object ≡ Some (Some carried) →
          slice_get new.values object ≡ Some None → value_in object b ≡ Some carried →
          ((n : ℕ) → (n ≡ object → ⊥) → slice_get new.values n ≡ slice_get old.values n) →
          AreEntered m old new before (slice_set before number b) number e
      carry_put object carried count was now has others = entered_with count still where
        of : (n : ℕ) (value : C) (is : Bool) → (n == object) ≡ is →
            HasValue old.values before n value →
            HasValue new.values (slice_set before number b) n value
        of n value true is (inl home) =
            let same = eqb-true n object is in
            let value_is : carried ≡ value = same_Some carried value
            (same_Some (Some carried) (Some value) (sym was ∙ ap (slice_get old.values) (sym same)
            ∙ home)) in
            inr (
              ap (slice_get new.values) same ∙ now,
              record {
                number = number;
                lane = b;
                at = get-set before number a b here;
                has = ap (λ k. value_in k b) same ∙ has ∙ ap Some value_is;
              },
            )
        of n value true is (inr (none, there)) =
            let same = eqb-true n object is in
            let clash : Some carried ≡ None = same_Some (Some carried) None
            (sym was ∙ ap (slice_get old.values) (sym same) ∙ none) in
            absurd cc
        of n value false is (inl home) = inl (others n (are_apart n object is) ∙ home)
        of n value false is (inr (none, there)) =
            inr (
              others n (are_apart n object is) ∙ none,
              in_lane_entered before number a b e n value here entered there,
            )

        still : (n : ℕ) (value : C) → HasValue old.values before n value →
            HasValue new.values (slice_set before number b) n value
        still n value has = of n value (n == object) refl has

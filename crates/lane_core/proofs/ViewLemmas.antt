-- What becomes of running lanes where one lane comes home, and where an operation is sent to one.
use Rattle.std.proofs.Common.{◌≡◌, ℕ, zero, suc, ◌-◌, ◌≤◌, true, false, Option, Some, None, List, [], ◌∷◌, ◌++◌, length, map, append_assoc, append-nil, refl, sym, ap, ◌∙◌, subst, arith}
use Rattle.std.specs.Prelude.{◌==◌, not, is_some, slice_get, slice_set}
use Rattle.std.specs.Option.{option_or}
use Rattle.std.proofs.lemmas.Option.{same_Some}
use Rattle.class_laws.specs.Laws.{ReducibleLaws}
use Rattle.execution_definitions.specs.Meanings.{Meaning}
use Rattle.interleavings.specs.Machines.{Entry}
use Rattle.set_queue.specs.declared.message.Message.{Message}
use Rattle.delegates.specs.Stores.{Stored, value_of, folded}
use Rattle.lane_core.specs.Views.{LaneView, LanesView, entries_in, runs_known, runs_sent}
use Rattle.lane_core.specs.Cuts.{LaneAtCut, IsCut, least_cut, lane_after, lane_at, lanes_at}
use Rattle.lane_core.specs.Cores.{carried, value_in}
use Rattle.lane_core.specs.Kept.{has_object, all_find, is_in_store}
use Rattle.lane_core.specs.Events.{AreSame, HaveComeOn, AreEntered, HasEntered}
use Rattle.lane_core.proofs.LanesLemmas.{IsWithin, IsServed, AreServed, IsOf, of_cut, keeps_objects, waiting_in, runs_sent-count}
use Rattle.lane_core.proofs.LogicalLemmas.{HasTakenAll, lane_done, come, or_none}
use Rattle.lane_core.proofs.ComeLemmas.{IsPut, put_lane, home_put, follow_put, carry_put}
use Rattle.lane_core.proofs.OnLemmas.{HasComeOn, within, enters, enters_with}
use Rattle.lane_core.proofs.DrainLemmas.{least-is_cut}
use Rattle.lane_core.proofs.StepLemmas.{no_value, has_run}

module _ {C O R : Type 0} (m : Meaning C O R) where
  -- ---- a lane comes home

  -- in place of this lane, which has come to all that was sent to it, there is one in which nothing is
  pub record IsEmptied (a b : LaneView C O R) : Type 0 where
    pub total : b.base.total ≡ m.unit
    pub runs : b.base.runs ≡ []
    pub none : b.since ≡ []
    pub log : b.log ≡ a.log ++ (come m a).runs

  -- its objects come home, and the others stay where they are
  pub record BringsHome (old new : LanesView C O R) (number : ℕ) (a : LaneView C O R) : Type 0 where
    pub count : length new.values ≡ length old.values
    pub home :
        (n : ℕ) (value : C) → slice_get old.values n ≡ Some (Some value) →
        slice_get new.values n ≡ Some (Some value)
    pub comes :
        (n : ℕ) (value : C) → value_of (come m a) n ≡ Some value →
        slice_get new.values n ≡ Some (Some value)
    pub others :
        (n k : ℕ) (lane : LaneView C O R) → (k == number) ≡ false →
        slice_get old.lanes k ≡ Some lane → has_object lane n ≡ true →
        slice_get new.values n ≡ Some None
    pub total : new.total ≡ m.join old.total (come m a).total

  module _ (a b : LaneView C O R) (served : IsServed a) (emptied : IsEmptied a b) where
    come-runs :
        (come m a).runs ≡ a.base.runs ++ map (λ (e : Entry C O). e.run) (entries_in a.since)
    come-runs = (has_run m a.base a.since [] served.whole
        (subst (λ messages. all_find (is_in_store a.base) messages ≡ true)
        (sym (append-nil a.since)) served.served)).runs

    known_all : length (runs_known b) ≡ length (runs_sent a)
    known_all =
        ap (λ runs. length (b.log ++ runs)) emptied.runs ∙ ap length (append-nil b.log)
        ∙ ap length emptied.log ∙ ap (λ runs. length (a.log ++ runs)) come-runs
        ∙ ap length (sym (append_assoc a.log a.base.runs
        (map (λ (e : Entry C O). e.run) (entries_in a.since))))

    all_within : (runs : ℕ) → IsWithin b runs → runs ≡ length (runs_sent a)
    all_within runs within =
        let least = within.least in
        let most = within.most in
        let known = known_all in
        let sent = runs_sent-count b in
        let none = ap (λ messages. length (entries_in messages)) emptied.none in
        omega (arith, least, most, known, sent, none)

    narrows : (runs : ℕ) → IsWithin b runs → IsWithin a runs
    narrows runs within =
        let all = all_within runs within in
        let sent = runs_sent-count a in
        record { least = omega (arith, all, sent); most = omega (arith, all) }

  none_waits : (runs : ℕ) (s : Stored C R) →
      lane_after m runs s [] ≡ (let bare : LaneAtCut C O R = record { store = s; waiting = [] } in bare)
  none_waits zero s = refl
  none_waits (suc runs) s = refl

  module _ (laws : ReducibleLaws m.unit m.join) (old new : LanesView C O R) (number : ℕ)
      (a b : LaneView C O R) (there : slice_get old.lanes number ≡ Some a)
      (lanes : new.lanes ≡ slice_set old.lanes number b) (served : AreServed old.lanes)
    where
      come_home : IsEmptied a b → BringsHome old new number a → (cut : List ℕ) →
          (put : IsPut m old.lanes cut number a b) →
          AreSame m old new (lanes_at m old.lanes cut)
          (slice_set (lanes_at m old.lanes cut) number (lane_at m b put.runs))
      come_home emptied brings cut put =
          let before = lane_at m a put.runs in
          let taken : HasTakenAll m a.base a.since before =
          subst (λ runs. HasTakenAll m a.base a.since (lane_at m a runs))
          (sym (all_within a b (served number a there) emptied put.runs put.within)) (lane_done m a) in
          let bare : lane_at m b put.runs ≡ record { store = b.base; waiting = [] } =
          ap (λ messages. lane_after m (put.runs - length (runs_known b)) b.base messages)
          emptied.none ∙ none_waits (put.runs - length (runs_known b)) b.base in
          home_put m laws old new (lanes_at m old.lanes cut) number before (lane_at m b put.runs)
          put.here
          (record {
            count = brings.count;
            home = brings.home;
            comes = λ n value has. brings.comes n value
                (ap (λ (s : Stored C R). value_of s n) (sym taken.store)
                ∙ sym (or_none (value_of before.store n))
                ∙ ap (option_or (value_of before.store n)) (sym (taken.bare n)) ∙ has);
            others = λ n k lane value differs at has.
                let of : IsOf m old.lanes k lane = of_cut m old.lanes cut put.is_cut k lane at in
                brings.others n k of.lane differs of.there
                (sym (keeps_objects m of.lane of.runs (served k of.lane of.there) of.within n)
                ∙ ap (λ (l : LaneAtCut C O R). is_some (value_in n l)) (sym of.is)
                ∙ ap (λ o. is_some o) has);
            total = brings.total
                ∙ ap (λ (s : Stored C R). m.join old.total s.total) (sym taken.store);
          })
          (ap (λ (l : LaneAtCut C O R). l.store.total) bare ∙ emptied.total)
          taken.none
          (ap (waiting_in m) bare)

      -- so lanes have come on
      pub homed : IsEmptied a b → BringsHome old new number a → HaveComeOn m old new
      homed emptied brings = record {
        each = λ cut is.
            let put = put_lane m old.lanes cut number a b there
            (narrows a b (served number a there) emptied)
            (subst (λ all. IsCut all cut) lanes is) in (
              put.is_cut,
              subst (AreSame m old new (lanes_at m old.lanes cut))
                  (sym (ap (λ all. lanes_at m all cut) lanes ∙ put.put))
                  (come_home emptied brings cut put),
            );
      }

  -- ---- an operation is sent

  -- the least cut with another lane
  record IsLeast (lanes : List (LaneView C O R)) (number : ℕ) (a b : LaneView C O R) : Type 0 where
    is_cut : IsCut lanes (least_cut (slice_set lanes number b))
    here :
        slice_get (lanes_at m lanes (least_cut (slice_set lanes number b))) number
        ≡ Some (lane_at m a (length (runs_known b)))
    put :
        lanes_at m (slice_set lanes number b) (least_cut (slice_set lanes number b))
        ≡ slice_set (lanes_at m lanes (least_cut (slice_set lanes number b))) number
        (lane_at m b (length (runs_known b)))

  put_least : (lanes : List (LaneView C O R)) (number : ℕ) (a b : LaneView C O R) →
      slice_get lanes number ≡ Some a → IsWithin a (length (runs_known b)) → IsLeast lanes number a b
  put_least [] number a b there within = absurd cc
  put_least (first ∷ lanes) zero a b there within =
      let same = same_Some first a there in
      let old : IsWithin first (length (runs_known b)) =
      subst (λ lane. IsWithin lane (length (runs_known b))) (sym same) within in
      record {
        is_cut = (old.least, old.most, least-is_cut lanes);
        here = ap (λ lane. Some (lane_at m lane (length (runs_known b)))) same;
        put = refl;
      }
  put_least (first ∷ lanes) (suc number) a b there within =
      let rest = put_least lanes number a b there within in
      let count = runs_sent-count first in
      record {
        is_cut = (omega arith, omega (arith, count), rest.is_cut);
        here = rest.here;
        put = ap (λ rest. lane_at m first (length (runs_known first)) ∷ rest) rest.put;
      }

  module _ (old new : LanesView C O R) (number : ℕ) (a b : LaneView C O R)
      (done left : List (Message C O R)) (x : Message C O R) (e : Entry C O)
      (there : slice_get old.lanes number ≡ Some a)
      (lanes : new.lanes ≡ slice_set old.lanes number b) (served : IsServed a)
      (on : HasComeOn m a b done left) (last : b.since ≡ left ++ x ∷ [])
      (asks : entries_in (x ∷ []) ≡ e ∷ []) (total : new.total ≡ old.total)
    where
      least : IsLeast old.lanes number a b
      least = put_least old.lanes number a b there (within m a b done left served on)

      entered_by : AreEntered m old new
          (lanes_at m old.lanes (least_cut (slice_set old.lanes number b)))
          (slice_set (lanes_at m old.lanes (least_cut (slice_set old.lanes number b))) number
          (lane_at m b (length (runs_known b)))) number e →
          HasEntered m old new number e
      entered_by entered =
          let cut_is : least_cut new.lanes ≡ least_cut (slice_set old.lanes number b) =
          ap least_cut lanes in
          record {
            cut = subst (IsCut old.lanes) (sym cut_is) least.is_cut;
            entered = subst (λ all. AreEntered m old new (lanes_at m old.lanes (least_cut all))
                (lanes_at m all (least_cut all)) number e) (sym lanes)
                (subst (λ after. AreEntered m old new
                (lanes_at m old.lanes (least_cut (slice_set old.lanes number b))) after number e)
                (sym least.put) entered);
          }

      -- to the lane in which its object is
      pub follows : new.values ≡ old.values → HasEntered m old new number e
      follows same = entered_by (follow_put m old new _ number _ _ e least.here
          (enters m a b done left served on x e last asks) total same)

      -- or its object goes along
      pub carries : (object : ℕ) (value : C) → has_object a object ≡ false →
          length new.values ≡ length old.values →
          slice_get old.values object ≡ Some (Some value) →
          slice_get new.values object ≡ Some None → carried object (x ∷ []) ≡ Some value →
          ((n : ℕ) → (n ≡ object → ⊥) → slice_get new.values n ≡ slice_get old.values n) →
          HasEntered m old new number e
      carries object value free count was now has others =
          let inside = within m a b done left served on in
          let none : value_in object (lane_at m a (length (runs_known b))) ≡ None =
          no_value (value_in object (lane_at m a (length (runs_known b))))
          (ap not (keeps_objects m a (length (runs_known b)) served inside object ∙ free)) in
          entered_by (carry_put m old new _ number _ _ e least.here
          (enters m a b done left served on x e last asks) total object value count was now
          (enters_with m a b done left served on x e last asks object value none has) others)

-- What does a lane store come to, once one of its ends took a message, or came home?
use Rattle.std.proofs.Common.{◌≡◌, ◌⊎◌, inl, inr, ⊎_elim, ℕ, zero, suc, Bool, true, false, Option, Some, None, List, [], ◌∷◌, ◌++◌, map, length, refl, sym, ap, ◌∙◌, subst, append-nil, arith}
use Rattle.std.specs.Prelude.{slice_get, slice_set}
use Rattle.std.specs.Option.{option_map}
use Rattle.std.proofs.lemmas.List.{map-set, length-set, length-map}
use Rattle.std.proofs.lemmas.Option.{same_Some, none-some, slice_get-map, slice_get_within}
use Rattle.ss_base.specs.declared.ids.Run.{Run}
use Rattle.class_laws.specs.Laws.{ReducibleLaws}
use Rattle.execution_definitions.specs.Meanings.{Meaning}
use Rattle.execution_definitions.specs.Sequential.{operated}
use Rattle.delegation.specs.Answers.{with_run}
use Rattle.delegation.specs.PlainParts.{state_of}
use Rattle.delegation.specs.Runtimes.{AreFronts}
use Rattle.delegation.proofs.runs.FrontLemmas.{fronts_same, fronts_more, fronts_trans}
use Rattle.set_queue.specs.Ends.{sent, received, AreOneLane}
use Rattle.set_queue.specs.declared.message.Message.{Message}
use Rattle.delegates.specs.Stores.{Stored, stored, with_total, with_runs, empty_store, taken, folded}
use Rattle.delegates.specs.declared.home.Home.{Home}
use Rattle.lane_core.proofs.StoreLemmas.{stays_whole}
use Rattle.lane_ends.specs.declared.lane_end.Taker.{Taker}
use Rattle.lane_ends.specs.declared.lane_end.Taker.TheVariants.{Program, Delegate}
use Rattle.lane_ends.specs.declared.lane_end.LaneEnd.{LaneEnd}
use Rattle.lane_ends.specs.LaneEnds.{sent_since, each_finds, IsTakenFrom, taker_home, is_delegate, since_by, since_of, base_by, base_of, comes_to, IsTakenBy, IsWhole, IsIdle, TakesIn, HasCome}
use Rattle.lane_ends.proofs.EndLemmas.{since_is}
use Rattle.lane_objects.specs.declared.object.Object.{Object}
use Rattle.lane_store.specs.declared.store.LaneStore.{LaneStore}
use Rattle.lane_objects.specs.Objects.{lane_and_number, found_in, found_at, come_back, without_values}
use Rattle.lane_objects.specs.Outcomes.{value_after, sent_runs, total_after, state_from, AreApart}
use Rattle.lane_store.specs.LaneStores.{Each, stores_of, store_state, IsWholeStore, AreIdle, IsIdleAt, Continues, ComesHome, Sends}
use Rattle.lane_objects.proofs.ListLemmas.{get-set, get-set_other}
use Rattle.lane_objects.proofs.OutcomeLemmas.{sent_put, sent_home, total_home}
use Rattle.lane_objects.proofs.RunLemmas.{HasRun, apart_put, state_put}
use Rattle.lane_objects.proofs.HomeLemmas.{values_homed, apart_homed, none_sent}
use Rattle.lane_store.specs.Running.{Enters}
use Rattle.lane_store.proofs.ViewLemmas.{store_here}
use Rattle.lane_store.proofs.ComeLemmas.{lane_homed, comes_on_again, enters_after}

module _ {C W O R : Type 0} where
  -- every end but one is as it was
  pub each_set : (P : LaneEnd C W O R → Type 0) (ends : List (LaneEnd C W O R)) (l : ℕ)
      (new : LaneEnd C W O R) → Each P ends → P new → Each P (slice_set ends l new)
  each_set P [] l new each is n end here = absurd cc
  each_set P (first ∷ ends) zero new each is zero end here = subst P (same_Some _ _ here) is
  each_set P (first ∷ ends) zero new each is (suc n) end here = each (suc n) end here
  each_set P (first ∷ ends) (suc l) new each is zero end here = each 0 end here
  each_set P (first ∷ ends) (suc l) new each is (suc n) end here =
      each_set P ends l new (λ k end at. each (suc k) end at) is n end here

  -- one end more that is so
  pub each_push : (P : LaneEnd C W O R → Type 0) (ends : List (LaneEnd C W O R))
      (new : LaneEnd C W O R) → Each P ends → P new → Each P (ends ++ new ∷ [])
  each_push P [] new each is zero end at = subst P (same_Some _ _ at) is
  each_push P [] new each is (suc n) end at = absurd cc
  each_push P (first ∷ ends) new each is zero end at = each 0 end at
  each_push P (first ∷ ends) new each is (suc n) end at =
      each_push P ends new (λ k end at. each (suc k) end at) is n end at

-- a store from which all was taken out
pub emptied : {C O R : Type 0} (m : Meaning C O R) (s t u v : Stored C R) →
    t ≡ without_values s → u ≡ with_total t m.unit → v ≡ with_runs u [] →
    s.is_broken ≡ false → v ≡ empty_store m
emptied {C} {O} {R} m s t u v first second third whole =
    third ∙ ap (λ (w : Stored C R). with_runs w []) second
    ∙ ap (λ (w : Stored C R). with_runs (with_total w m.unit) []) first
    ∙ ap (λ broken. record (empty_store m) { is_broken = broken }) whole

module _ {C W O R : Type 0} (m : Meaning C O R) (home_of : W → Home C O R) where
  -- ---- an end

  folded_whole : (s : Stored C R) (messages : List (Message C O R)) → s.is_broken ≡ false →
      (folded m s messages).is_broken ≡ false
  folded_whole s [] whole = whole
  folded_whole s (x ∷ messages) whole =
      folded_whole (taken m s x) messages (stays_whole m s x whole)

  -- a lane that is whole doesn't come to a broken store
  pub unbroken : (end : LaneEnd C W O R) (taker : Option (Taker C W O R)) → end.taker ≡ taker →
      IsTakenBy m home_of end.sender taker → (comes_to m home_of end).is_broken ≡ false
  unbroken end None is whole = absurd whole
  unbroken end (Some taker) is whole =
      ap (λ t. (folded m (base_by m home_of t) (since_by home_of end.sender t)).is_broken) is
      ∙ folded_whole (stored (taker_home home_of taker).store)
      (sent_since end.sender (taker_home home_of taker)) whole.unbroken

  pub comes_to_whole : (end : LaneEnd C W O R) → IsWhole m home_of end →
      (comes_to m home_of end).is_broken ≡ false
  comes_to_whole end whole = unbroken end end.taker refl whole

  -- an idle lane comes to nothing
  pub idle_comes : (end : LaneEnd C W O R) → IsIdle m home_of end →
      comes_to m home_of end ≡ empty_store m
  idle_comes end idle =
      ap (λ messages. folded m (base_of m home_of end) messages) idle.none ∙ idle.empty

  -- a lane whose home was emptied is idle
  pub idle_from : (old mid new : LaneEnd C W O R) (home now : Home C O R) →
      HasCome m home_of old mid home → new.sender ≡ mid.sender →
      new.taker ≡ Some (Program now) → now.receiver ≡ home.receiver →
      stored now.store ≡ empty_store m → IsIdle m home_of new
  idle_from old mid new home now come sender taker receiver empty =
      let all : received now.receiver ≡ sent new.sender =
      ap received receiver ∙ come.all ∙ ap sent (sym sender) in
      let ends = append-nil (received now.receiver) in
      let none : sent_since new.sender now ≡ [] =
      since_is new.sender now [] (sym all ∙ sym ends) in
      record {
        whole = subst (λ t. IsTakenBy m home_of new.sender t) (sym taker) (record {
          one = subst (λ s. AreOneLane s now.receiver) (sym sender)
              (subst (λ r. AreOneLane mid.sender r) (sym receiver) come.one);
          first = sym all ∙ sym ends ∙ ap (λ xs. received now.receiver ++ xs) (sym none);
          unbroken = ap (λ (s : Stored C R). s.is_broken) empty;
          served = ap (λ xs. each_finds m (stored now.store) xs) none;
        });
        program = ap is_delegate taker;
        empty = ap (base_by m home_of) taker ∙ empty;
        none = ap (since_by home_of new.sender) taker ∙ none;
      }

  -- ---- the stores to which ends come

  pub stores_set : (ends : List (LaneEnd C W O R)) (l : ℕ) (new : LaneEnd C W O R) →
      stores_of m home_of (slice_set ends l new)
      ≡ slice_set (stores_of m home_of ends) l (comes_to m home_of new)
  stores_set ends l new = map-set (comes_to m home_of) ends l new

  -- ---- a store

  pub continues_on : (a b c : LaneStore C W O R) → Continues m home_of a b →
      Continues m home_of b c → Continues m home_of a c
  continues_on a b c first second = record {
    state = second.state ∙ first.state;
    sent = second.sent ∙ first.sent;
    whole = second.whole;
    objects = second.objects ∙ first.objects;
    lanes = second.lanes ∙ first.lanes;
    logs = fronts_trans a.logs.items b.logs.items c.logs.items first.logs second.logs;
    found = λ n k number is. first.found n k number (second.found n k number is);
    comes_on = comes_on_again m home_of a b c first.comes_on second.comes_on;
  }

  -- a lane comes home
  pub comes_home : (store now : LaneStore C W O R) (l : ℕ) (old new : LaneEnd C W O R)
      (log : List Run) → ReducibleLaws m.unit m.join → IsWholeStore m home_of store →
      slice_get store.ends.items l ≡ Some old → slice_get store.logs.items l ≡ Some log →
      IsIdle m home_of new →
      ((n : ℕ) → slice_get now.objects.items n
      ≡ option_map (come_back (comes_to m home_of old) n) (slice_get store.objects.items n)) →
      length now.objects.items ≡ length store.objects.items →
      now.total ≡ m.join store.total (comes_to m home_of old).total →
      now.ends.items ≡ slice_set store.ends.items l new →
      now.logs.items ≡ slice_set store.logs.items l (log ++ (comes_to m home_of old).runs) →
      ComesHome m home_of store now l
  comes_home store now l old new log laws whole here logged idle home count total_is ends_are
      logs_are =
      let objects = store.objects.items in
      let stores = stores_of m home_of store.ends.items in
      let was = comes_to m home_of old in
      let is = comes_to m home_of new in
      let empty : is ≡ empty_store m = idle_comes new idle in
      let no_values = ap (λ (s : Stored C R). s.values) empty in
      let at = store_here m home_of store.ends.items l old here in
      let stores_are : stores_of m home_of now.ends.items ≡ slice_set stores l is =
      ap (stores_of m home_of) ends_are ∙ stores_set store.ends.items l new in
      record {
        continues = record {
          state = ap (λ ss. state_from m now.objects.items now.total ss) stores_are
              ∙ ap (λ values. state_of values (total_after m now.total (slice_set stores l is)))
              (values_homed objects now.objects.items stores l was is whole.apart at no_values home
              count)
              ∙ ap (λ sum. state_of (map (value_after stores) objects) sum)
              (ap (λ t. total_after m t (slice_set stores l is)) total_is
              ∙ total_home m laws store.total stores l was is at
              (ap (λ (s : Stored C R). s.total) empty));
          sent = ap (λ ss. sent_runs now.logs.items ss) stores_are
              ∙ ap (λ logs. sent_runs logs (slice_set stores l is)) logs_are
              ∙ sent_home store.logs.items stores l log was is logged at
              (ap (λ (s : Stored C R). s.runs) empty);
          whole = record {
            apart = subst (λ ss. AreApart now.objects.items ss) (sym stores_are)
                (apart_homed objects now.objects.items stores l was is whole.apart at no_values home
                count);
            lanes = subst (λ ends. Each (IsWhole m home_of) ends) (sym ends_are)
                (each_set (IsWhole m home_of) store.ends.items l new whole.lanes idle.whole);
            made = ap (λ t. m.join t m.unit) total_is ∙ laws.unit_of_join store.total was.total
                ∙ sym total_is;
          };
          objects = count;
          lanes = ap length ends_are ∙ length-set store.ends.items l new;
          logs = subst (λ logs. AreFronts store.logs.items logs) (sym logs_are)
              (fronts_more store.logs.items l log was.runs logged);
          found = none_sent objects now.objects.items stores l was is whole.apart at no_values home
              count;
          comes_on = lane_homed m home_of laws store now l old new log whole here logged idle home count
              total_is ends_are logs_are;
        };
        idle = λ end at. subst (IsIdle m home_of) (same_Some _ _
            (sym (ap (λ ends. slice_get ends l) ends_are ∙ get-set store.ends.items l old new here)
            ∙ at)) idle;
        others = λ n differs. ap (λ ends. slice_get ends n) ends_are
            ∙ get-set_other store.ends.items l n new differs;
        found = none_sent objects now.objects.items stores l was is whole.apart at no_values home
            count;
      }

  -- an operation went to a lane
  pub sends : (store now : LaneStore C W O R) (l : ℕ) (old new : LaneEnd C W O R)
      (x : Message C O R) (run : Run) (object goes : Object C) (op : O) (read : Option C) →
      ReducibleLaws m.unit m.join → IsWholeStore m home_of store →
      slice_get store.ends.items l ≡ Some old →
      length store.logs.items ≡ length store.ends.items →
      slice_get store.objects.items run.object.0 ≡ Some object →
      lane_and_number goes ≡ Some (l, run.object.0) →
      (lane_and_number object ≡ None) ⊎ (lane_and_number object ≡ Some (l, run.object.0)) →
      TakesIn m home_of old new x →
      HasRun m (comes_to m home_of old) (taken m (comes_to m home_of old) x) run
      (m.step (value_after (stores_of m home_of store.ends.items) object) op read) →
      now.objects.items ≡ slice_set store.objects.items run.object.0 goes →
      now.total ≡ store.total → now.ends.items ≡ slice_set store.ends.items l new →
      now.logs.items ≡ store.logs.items → Enters m home_of store now l run op read →
      Sends m home_of store now l run op read
  sends store now l old new x run object goes op read laws whole here count at away from takes has
      objects_are total_is ends_are logs_are enters =
      let objects = store.objects.items in
      let stores = stores_of m home_of store.ends.items in
      let was = comes_to m home_of old in
      let is = comes_to m home_of new in
      let after = m.step (value_after stores object) op read in
      let ran : HasRun m was is run after =
      subst (λ s. HasRun m was s run after) (sym takes.takes) has in
      let there = store_here m home_of store.ends.items l old here in
      let stores_are : stores_of m home_of now.ends.items ≡ slice_set stores l is =
      ap (stores_of m home_of) ends_are ∙ stores_set store.ends.items l new in
      record {
        state = ap (λ ss. state_from m now.objects.items now.total ss) stores_are
            ∙ ap (λ t. state_from m now.objects.items t (slice_set stores l is)) total_is
            ∙ ap (λ os. state_from m os store.total (slice_set stores l is)) objects_are
            ∙ state_put m objects stores l was is whole.apart there run object goes after at away
            from ran op read store.total laws refl;
        sent = ap (λ ss. sent_runs now.logs.items ss) stores_are
            ∙ ap (λ logs. sent_runs logs (slice_set stores l is)) logs_are
            ∙ sent_put store.logs.items stores l was is run
            (count ∙ sym (length-map store.ends.items (comes_to m home_of))) there ran.runs;
        whole = record {
          apart = subst (λ ss. AreApart now.objects.items ss) (sym stores_are)
              (subst (λ os. AreApart os (slice_set stores l is)) (sym objects_are)
              (apart_put m objects stores l was is whole.apart there run object goes after at away
              from ran));
          lanes = subst (λ ends. Each (IsWhole m home_of) ends) (sym ends_are)
              (each_set (IsWhole m home_of) store.ends.items l new whole.lanes takes.whole);
          made = ap (λ t. m.join t m.unit) total_is ∙ whole.made ∙ sym total_is;
        };
        objects = ap length objects_are ∙ length-set objects run.object.0 goes;
        lanes = ap length ends_are ∙ length-set store.ends.items l new;
        logs = subst (λ logs. AreFronts store.logs.items logs) (sym logs_are)
            (fronts_same store.logs.items);
        there = ap (λ os. found_at os run.object.0) objects_are
            ∙ ap found_in (get-set objects run.object.0 object goes at) ∙ away;
        others = λ n k number differs is.
            sym (ap (λ os. found_at os n) objects_are
            ∙ ap found_in (get-set_other objects run.object.0 n goes differs)) ∙ is;
        enters = enters;
      }

  -- an operation went to a lane of a store that had gone on
  pub sends_after : (a b c : LaneStore C W O R) (l : ℕ) (run : Run) (op : O)
      (read now : Option C) → Continues m home_of a b → read ≡ now →
      Sends m home_of b c l run op read → Sends m home_of a c l run op now
  sends_after a b c l run op read now on same sends = record {
    state = sends.state ∙ ap (λ s. operated m s run.object.0 op read) on.state
        ∙ ap (λ r. operated m (store_state m home_of a) run.object.0 op r) same;
    sent = sends.sent ∙ ap (with_run l run) on.sent;
    whole = sends.whole;
    objects = sends.objects ∙ on.objects;
    lanes = sends.lanes ∙ on.lanes;
    logs = fronts_trans a.logs.items b.logs.items c.logs.items on.logs sends.logs;
    there = sends.there;
    others = λ n k number differs is. on.found n k number (sends.others n k number differs is);
    enters = enters_after m home_of a b c l run op read now on.comes_on same sends.enters;
  }

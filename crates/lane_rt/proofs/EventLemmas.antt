-- Each call that is done is the machine's event.
use Rattle.std.proofs.Common.{◌≡◌, ℕ, Bool, true, false, Option, Some, None, List, length, refl, sym, ap, ap₂, ◌∙◌, subst}
use Rattle.std.specs.Prelude.{slice_get}
use Rattle.std.specs.Option.{option_map}
use Rattle.std.specs.List.{list_all}
use Rattle.ss_base.specs.Ids.{call_no, object_id, set_id}
use Rattle.ss_base.specs.declared.ids.ObjectId.{ObjectId}
use Rattle.ss_base.specs.declared.ids.Run.{Run}
use Rattle.ss_base.specs.declared.ids.SetId.{SetId}
use Rattle.class_laws.specs.Laws.{ReducibleLaws}
use Rattle.execution_definitions.specs.declared.call.Call.{Call}
use Rattle.execution_definitions.specs.declared.call.Call.TheVariants.{Make, MakeFixed, Begin, Delegate, Write, Get, End, Total}
use Rattle.execution_definitions.specs.declared.serializer.By.{By}
use Rattle.execution_definitions.specs.Held.{last_set}
use Rattle.execution_definitions.specs.Meanings.{Meaning, shapes_of, number_given}
use Rattle.execution_definitions.specs.Runs.{run_of}
use Rattle.execution_definitions.specs.Sequential.{with_object}
use Rattle.execution_definitions.specs.Sets.{lane_of_set}
use Rattle.execution_definitions.specs.Shapes.{Shape, delegate}
use Rattle.interleavings.specs.Machines.{is_empty, is_idle, is_idle_for, may_take, call_event}
use Rattle.partition_check.specs.Marked.{Marked, mark_at, set_marked, set_delegated}
use Rattle.partition_check.specs.Delegable.{IsReadOther}
use Rattle.partition_check.specs.Represents.{Represents}
use Rattle.partition_check.proofs.represents.DelegatedLemmas.{delegated_to-represents}
use Rattle.partition_check.proofs.represents.JudgedLemmas.{set_marked-represents}
use Rattle.jobs.specs.declared.start.RunningJob.{RunningJob}
use Rattle.delegates.specs.declared.worker.DelegateJob.{DelegateJob}
use Rattle.lane_core.specs.Views.{LanesView}
use Rattle.lane_core.specs.Cuts.{least_cut}
use Rattle.lane_core.specs.Cores.{core}
use Rattle.lane_core.specs.Events.{HaveComeOn, HasEntered, IsItsEvent}
use Rattle.lane_core.proofs.StepLemmas.{are_apart}
use Rattle.lane_core.proofs.ComeLemmas.{come_on-again}
use Rattle.lane_core.proofs.DrainLemmas.{least-is_cut, count_at_cut}
use Rattle.lane_core.proofs.CallLemmas.{IsRead, idle_at, all_idle, still_event, make_event, write_event, delegate_event}
use Rattle.lane_ends.specs.Workers.{home_given}
use Rattle.lane_store.specs.declared.store.LaneStore.{LaneStore}
use Rattle.lane_store.specs.LaneStores.{AreIdle, IsIdleAt, IsIdleFor, IsAdded}
use Rattle.lane_store.specs.Running.{lanes_of, running_of, ComesOn, Enters, ReadsAtHome, TakesEffect}
use Rattle.lane_store.proofs.ViewLemmas.{length-lanes, seen_at}
use Rattle.lane_rt.specs.Kept.{HoldsTogether}
use Rattle.lane_rt.proofs.ViewLemmas.{lanes_kept}

-- the run of a delegation, by the marks
pub run_is : (marks : Marked) (calls : List Shape) → Represents marks calls →
    (object own : ℕ) (reading : Option ℕ) →
    run_of calls (delegate object own reading) ≡ Some (record {
      call = call_no marks.calls;
      epoch = marks.epochs;
      set = set_id (set_marked (mark_at marks object) object own);
      object = object_id object;
    })
run_is marks calls r object own reading =
    sym (rw (
      r.call_count,
      r.epochs,
      set_marked-represents marks calls r object own (mark_at marks object) refl,
    ) refl)

-- is that which is sent
pub same_run : (calls k epochs e set s : ℕ) (o : ObjectId) → k ≡ calls → e ≡ epochs → s ≡ set →
    (let marked : Option Run = Some (record {
      call = call_no calls;
      epoch = epochs;
      set = set_id set;
      object = object_id o.0;
    }) in
    let sent : Option Run = Some (record {
      call = call_no k;
      epoch = e;
      set = set_id s;
      object = o;
    }) in
    marked ≡ sent)
same_run calls k epochs e set s o call epoch set_is = rw (call, epoch, set_is) refl

abbrev pub Store : Type 0 → Type 0 → Type 0 → Type 0 → Type 0
Store C G O R = LaneStore C (RunningJob (DelegateJob C G O R)) O R

module _ {C G O R : Type 0} (m : Meaning C O R) where
  abbrev pub running : Store C G O R → Marked → LanesView C O R
  running store marks = running_of m home_given store marks false

  -- marks change nothing of what lanes have
  pub marks_change : (store : Store C G O R) (marks new_marks : Marked) →
      HaveComeOn m (running store marks) (running store new_marks)
  marks_change store marks new_marks = record {
    each = λ cut is. (
      is,
      record { count = refl; values = λ n value has. has; total = refl; waiting = refl },
    );
  }

  pub come_on : (store new : Store C G O R) (marks new_marks : Marked) →
      ComesOn m home_given store new →
      HaveComeOn m (running store marks) (running new new_marks)
  come_on store new marks new_marks on =
      come_on-again m (running store marks) (running new marks) (running new new_marks) (on marks)
      (marks_change new marks new_marks)

  -- nothing waits in an idle lane
  idle_lane : (store : Store C G O R) (marks : Marked) (l : ℕ) →
      IsIdleAt m home_given l store.ends.items →
      is_idle (slice_get (core m (running store marks) (least_cut (running store marks).lanes)).lanes l)
      ≡ true
  idle_lane store marks l idle =
      idle_at m (running store marks).lanes l (λ lane at.
      let seen = seen_at m home_given store.logs.items store.ends.items l lane at in
      ap (λ lane. lane.since) seen.is ∙ (idle seen.end seen.at).none)

  -- nor in any, where all are idle
  pub none_waits : (store : Store C G O R) (marks : Marked) → AreIdle m home_given store →
      list_all is_empty
      (core m (running store marks) (least_cut (running store marks).lanes)).lanes ≡ true
  none_waits store marks idle =
      all_idle m (running store marks).lanes (λ number lane at.
      let seen = seen_at m home_given store.logs.items store.ends.items number lane at in
      ap (λ lane. lane.since) seen.is ∙ (idle number seen.end seen.at).none)

  -- so a call on an object may be taken, once the lane of its last delegation came home
  pub may_be_taken : (store : Store C G O R) (marks new_marks : Marked) (n object : ℕ)
      (calls : List Shape) → length store.ends.items ≡ n → Represents marks calls →
      IsIdleFor m home_given store n (set_delegated marks object) →
      is_idle_for (core m (running store new_marks) (least_cut (running store new_marks).lanes))
      (last_set calls object) ≡ true
  may_be_taken store marks new_marks n object calls count r idle =
      by (last_set calls object)
      (delegated_to-represents marks calls r object (mark_at marks object) refl).set
    where
      by : (last : Option ℕ) → set_delegated marks object ≡ option_map set_id last →
          is_idle_for (core m (running store new_marks) (least_cut (running store new_marks).lanes)) last
          ≡ true
      by None is = refl
      by (Some set) is =
          let lanes = (running store new_marks).lanes in
          let all = count_at_cut m lanes (least_cut lanes) (least-is_cut lanes)
          ∙ length-lanes m home_given store.logs.items store.ends.items ∙ count in
          ap (λ k. is_idle (slice_get (core m (running store new_marks) (least_cut lanes)).lanes
          (lane_of_set set k))) all
          ∙ idle_lane store new_marks (lane_of_set set n)
          (subst (IsIdleFor m home_given store n) is idle)

  -- an operation that was sent is sent whatever marks say then
  pub marks_entered : (store new : Store C G O R) (marks new_marks : Marked) (l : ℕ) (run : Run) (op : O)
      (read : Option C) → Enters m home_given store new l run op read →
      HasEntered m (running store marks) (running new new_marks) l
      (record { run = run; op = op; read = read })
  marks_entered store new marks new_marks l run op read sent =
      let is = sent marks in
      record {
        cut = is.cut;
        entered = record {
          count = is.entered.count;
          values = is.entered.values;
          total = is.entered.total;
          waiting = is.entered.waiting;
        };
      }

  idle_for_same : (store new : Store C G O R) (n : ℕ) (set : Option SetId) →
      new.ends.items ≡ store.ends.items → IsIdleFor m home_given store n set →
      IsIdleFor m home_given new n set
  idle_for_same store new n None same idle = tt
  idle_for_same store new n (Some set) same idle =
      subst (IsIdleAt m home_given (lane_of_set set.0 n)) (sym same) idle

  -- what is said of a runtime that didn't fail
  pub usable_event : (store new : Store C G O R) (marks new_marks : Marked) (has_failed : Bool)
      (before : List (Call C O)) (call : Call C O) → has_failed ≡ false →
      IsItsEvent m before (running store marks) (running new new_marks) call →
      IsItsEvent m before (running_of m home_given store marks has_failed)
      (running_of m home_given new new_marks has_failed) call
  usable_event store new marks new_marks has_failed before call usable event =
      subst (λ failed. IsItsEvent m before (running_of m home_given store marks failed)
      (running_of m home_given new new_marks failed) call) (sym usable) event

  module _ (store new : Store C G O R) (marks new_marks : Marked) (n : ℕ) (has_failed : Bool)
      (before : List (Call C O)) (usable : has_failed ≡ false)
      (kept : HoldsTogether m store marks n) (new_kept : HoldsTogether m new new_marks n)
    where
      abbrev IsEvent : Call C O → Type 0
      IsEvent call =
          IsItsEvent m before (running_of m home_given store marks has_failed)
          (running_of m home_given new new_marks has_failed) call

      still : (call : Call C O) → ComesOn m home_given store new →
          may_take m before (core m (running new new_marks) (least_cut (running new new_marks).lanes))
          call ≡ true →
          call_event m before (core m (running store marks) (least_cut (running new new_marks).lanes))
          call ≡ core m (running store marks) (least_cut (running new new_marks).lanes) →
          IsEvent call
      still call on may same =
          usable_event store new marks new_marks has_failed before call usable
          (still_event m before (running store marks) (running new new_marks)
          (lanes_kept m store marks n false kept) (lanes_kept m new new_marks n false new_kept) call
          (come_on store new marks new_marks on) may same)

      pub begin_event : ComesOn m home_given store new → IsEvent Begin
      begin_event on = still Begin on refl refl

      pub total_event : ComesOn m home_given store new → IsEvent Total
      total_event on = still Total on refl refl

      pub end_event : ComesOn m home_given store new → AreIdle m home_given new → IsEvent End
      end_event on idle = still End on (none_waits new new_marks idle) refl

      pub get_event : (o : ObjectId) → ComesOn m home_given store new →
          Represents marks (shapes_of m before) →
          IsIdleFor m home_given new n (set_delegated marks o.0) → IsEvent (Get o)
      get_event o on r idle =
          still (Get o) on
          (may_be_taken new marks new_marks n o.0 (shapes_of m before) new_kept.lane_count r idle) refl

      makes : (value : C) (call : Call C O) → IsAdded m home_given store new value →
          may_take m before (core m (running store marks) (least_cut (running new new_marks).lanes))
          call ≡ true →
          call_event m before (core m (running store marks) (least_cut (running new new_marks).lanes))
          call ≡ record (core m (running store marks) (least_cut (running new new_marks).lanes)) {
            state = with_object
                (core m (running store marks) (least_cut (running new new_marks).lanes)).state value;
          } →
          IsEvent call
      makes value call added may is =
          usable_event store new marks new_marks has_failed before call usable
          (make_event m before (running store marks) (running new new_marks)
          (lanes_kept m store marks n false kept) (lanes_kept m new new_marks n false new_kept) value
          call added.values added.total (ap₂ (lanes_of m home_given) added.logs added.lanes) may is)

      pub made_event : (value : C) (by : By) → IsAdded m home_given store new value →
          IsEvent (Make value by)
      made_event value by added = makes value (Make value by) added refl refl

      pub made_fixed_event : (value : C) → IsAdded m home_given store new value →
          IsEvent (MakeFixed value)
      made_fixed_event value added = makes value (MakeFixed value) added refl refl

      pub called_event : ReducibleLaws m.unit m.join → (mid : Store C G O R) →
          HoldsTogether m mid marks n → (o : ObjectId) (op : O) → ComesOn m home_given store mid →
          TakesEffect m mid.objects.items new.objects.items mid.total new.total o.0 op →
          new.ends.items ≡ mid.ends.items → new.logs.items ≡ mid.logs.items →
          Represents marks (shapes_of m before) →
          IsIdleFor m home_given mid n (set_delegated marks o.0) → IsEvent (Write o op)
      called_event laws mid mid_kept o op on effect ends logs r idle =
          usable_event store new marks new_marks has_failed before (Write o op) usable
          (write_event m before (running store marks) (running new new_marks)
          (lanes_kept m store marks n false kept) (lanes_kept m new new_marks n false new_kept) laws
          (running mid marks) (lanes_kept m mid marks n false mid_kept) (on marks) o op effect.value
          effect.was effect.now effect.total_is (ap₂ (lanes_of m home_given) logs ends)
          (may_be_taken new marks new_marks n o.0 (shapes_of m before) new_kept.lane_count r
          (idle_for_same mid new n (set_delegated marks o.0) ends idle)))

      pub sent_event : (l : ℕ) (run : Run) (o : ObjectId) (op : O) (reading : Option ObjectId)
          (read : Option C) → Enters m home_given store new l run op read →
          run_of (shapes_of m before) (delegate o.0 (m.own op) (number_given reading)) ≡ Some run →
          l ≡ lane_of_set run.set.0 n → IsReadOther (number_given reading) o.0 →
          ReadsAtHome new.objects.items o.0 reading read → IsEvent (Delegate o op reading)
      sent_event l run o op reading read sent is lane other reads =
          usable_event store new marks new_marks has_failed before (Delegate o op reading) usable
          (delegate_event m before (running store marks) (running new new_marks)
          (lanes_kept m store marks n false kept) (lanes_kept m new new_marks n false new_kept) l run o
          op reading read (marks_entered store new marks new_marks l run op read sent) is
          (lane ∙ ap (lane_of_set run.set.0)
          (sym (length-lanes m home_given store.logs.items store.ends.items ∙ kept.lane_count)))
          (by reading other reads))
        where
          by : (reading : Option ObjectId) → IsReadOther (number_given reading) o.0 →
              ReadsAtHome new.objects.items o.0 reading read →
              IsRead m before (running store marks) (running new new_marks)
              (lanes_kept m store marks n false kept) (lanes_kept m new new_marks n false new_kept)
              reading read
          by None other reads = reads
          by (Some object) other reads =
              let is = reads (are_apart object.0 o.0 other) in (is.value, is.is, is.home)

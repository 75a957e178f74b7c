-- What holds of the runtime holds after a call.
use Rattle.std.proofs.Common.{◌≡◌, ℕ, ◌+◌, false, Some, None, [], ◌∷◌, ◌++◌, length, length-append, sym, ap, ◌∙◌, subst}
use Rattle.execution_definitions.specs.Meanings.{Meaning}
use Rattle.partition_check.specs.declared.mark.Mark.{Mark}
use Rattle.partition_check.specs.Marked.{Marked}
use Rattle.partition_check.specs.MarkedAfter.{marked_noted}
use Rattle.jobs.specs.declared.start.RunningJob.{RunningJob}
use Rattle.delegates.specs.declared.worker.DelegateJob.{DelegateJob}
use Rattle.lane_ends.specs.LaneEnds.{IsIdle}
use Rattle.lane_ends.specs.Workers.{home_given}
use Rattle.lane_store.specs.declared.store.LaneStore.{LaneStore}
use Rattle.lane_store.specs.LaneStores.{AreIdle, Continues, Each, IsAdded}
use Rattle.lane_objects.specs.Objects.{found_at}
use Rattle.lane_rt.specs.Kept.{HoldsTogether}
use Rattle.lane_rt.proofs.PlacedLemmas.{placed_freed, placed_more}

module _ {C G O R : Type 0} (m : Meaning C O R)
    (store new : LaneStore C (RunningJob (DelegateJob C G O R)) O R) (marks new_marks : Marked)
    (delegates : ℕ) (kept : HoldsTogether m store marks delegates)
  where
    -- the store comes to the same, an object came home, and its mark was freed
    pub kept_on : Continues m home_given store new →
        length new_marks.objects ≡ length marks.objects →
        (o : ℕ) → new_marks ≡ marked_noted marks (Some o) →
        found_at new.objects.items o ≡ None →
        (new_marks.is_open ≡ false → AreIdle m home_given new) →
        HoldsTogether m new new_marks delegates
    kept_on on count o noted home idle = record {
      whole = on.whole;
      marked = on.objects ∙ kept.marked ∙ sym count;
      lane_count = on.lanes ∙ kept.lane_count;
      log_count = sym on.logs.count ∙ kept.log_count;
      idle = idle;
      placed = placed_freed store.objects.items new.objects.items marks new_marks delegates o
          on.found noted home kept.placed;
    }

    -- there is an object more
    pub kept_added : (value : C) → IsAdded m home_given store new value →
        (mark : Mark) → new_marks.objects ≡ marks.objects ++ mark ∷ [] →
        new_marks.is_open ≡ marks.is_open → HoldsTogether m new new_marks delegates
    kept_added value added mark more same = record {
      whole = added.whole kept.whole;
      marked = added.objects ∙ ap (λ count. count + 1) kept.marked
          ∙ sym (ap length more ∙ length-append marks.objects (mark ∷ []));
      lane_count = ap length added.lanes ∙ kept.lane_count;
      log_count = ap length added.logs ∙ kept.log_count;
      idle = λ closed. subst (Each (IsIdle m home_given)) (sym added.lanes)
          (kept.idle (sym same ∙ closed));
      placed = placed_more store.objects.items new.objects.items marks new_marks (mark ∷ [])
          delegates added.found more kept.placed;
    }

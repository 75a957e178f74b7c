-- What accepted calls do to a store.
use Rattle.std.proofs.Common.{◌≡◌, ℕ, Option, Some, None, List, [], ◌∷◌, ◌++◌, length, map, refl, sym, ap, ◌∙◌, subst}
use Rattle.ss_base.specs.declared.ids.ObjectId.{ObjectId}
use Rattle.ss_base.specs.declared.ids.SetId.{SetId}
use Rattle.ss_base.specs.declared.ids.Run.{Run}
use Rattle.ss_base.specs.Ids.{object_id, set_id, call_no}
use Rattle.execution_definitions.specs.declared.serializer.By.{By}
use Rattle.execution_definitions.specs.declared.call.Call.{Call}
use Rattle.execution_definitions.specs.declared.call.Call.TheVariants as call
use Rattle.execution_definitions.specs.declared.call.Reply.{Reply}
use Rattle.execution_definitions.specs.declared.call.Reply.TheVariants as reply
use Rattle.execution_definitions.specs.Sets.{set_of, lane_of_set}
use Rattle.execution_definitions.specs.Epochs.{epoch_count}
use Rattle.execution_definitions.specs.Refusals.{breaks}
use Rattle.execution_definitions.specs.Meanings.{Meaning, shape_of, shapes_of}
use Rattle.execution_definitions.specs.Sequential.{State, with_object, value_read, reply_of}
use Rattle.execution_definitions.proofs.programs.SequentialLemmas.{shapes_of-push}
use Rattle.interleavings.specs.Machines.{Core, with_entry, entered, call_event}
use Rattle.partition_check.specs.Answers.{making}
use Rattle.partition_check.specs.Represents.{Represents}
use Rattle.schedule_core.specs.declared.queues.Queue.{Queue}
use Rattle.schedule_core.specs.declared.store.Waiting.{Waiting}
use Rattle.schedule_core.specs.declared.store.Store.{Store}
use Rattle.schedule_core.specs.Queues.{queued}
use Rattle.schedule_core.specs.Stores.{entry_of, lanes_of, core_of, call_making, Accepts}
use Rattle.schedule_core.proofs.StoreLemmas.{with_entry-map, length-lanes_of}

module _ {C O R : Type 0} (m : Meaning C O R) where
  -- accepted, and the marks stand for one call more
  pub accepted : (before : List (Call C O)) (old new : Store C O R) (one : Call C O)
      (told : Reply C R) → breaks (shapes_of m before) (shape_of m.own one) ≡ None →
      core_of new ≡ call_event m before (core_of old) one →
      Represents new.marks (shapes_of m before ++ shape_of m.own one ∷ []) →
      Some told ≡ reply_of m (core_of old).state (length before) one →
      Accepts m before old new one told
  accepted before old new one told allowed core marks reply = record {
    allowed = allowed;
    core = core;
    marks = subst (Represents new.marks) (sym (shapes_of-push m before one)) marks;
    reply = reply;
  }

  -- ---- a call that makes an object

  pub making-shape : (value : C) (by : Option By) →
      shape_of m.own (call_making value by) ≡ making by
  making-shape value None = refl
  making-shape value (Some by) = refl

  making-event : (before : List (Call C O)) (core : Core C O R) (value : C) (by : Option By) →
      call_event m before core (call_making value by)
      ≡ record { state = with_object core.state value; lanes = core.lanes }
  making-event before core value None = refl
  making-event before core value (Some by) = refl

  making-reply : (state : State C R) (n : ℕ) (value : C) (by : Option By) →
      reply_of m state n (call_making value by)
      ≡ Some (reply.Made (object_id (length state.values)))
  making-reply state n value None = refl
  making-reply state n value (Some by) = refl

  pub accepted_make : (before : List (Call C O)) (old new : Store C O R) (value : C)
      (by : Option By) (object : ObjectId) → breaks (shapes_of m before) (making by) ≡ None →
      core_of new ≡ record { state = with_object (core_of old).state value; lanes = (core_of old).lanes } →
      Represents new.marks (shapes_of m before ++ making by ∷ []) →
      object.0 ≡ length old.values.items →
      Accepts m before old new (call_making value by) (reply.Made object)
  accepted_make before old new value by object allowed core marks count =
      let shape = making-shape value by in
      accepted before old new (call_making value by) (reply.Made object)
      (ap (breaks (shapes_of m before)) shape ∙ allowed)
      (core ∙ sym (making-event before (core_of old) value by))
      (subst (λ s. Represents new.marks (shapes_of m before ++ s ∷ [])) (sym shape) marks)
      (ap (λ n. Some (reply.Made (object_id n))) count
      ∙ sym (making-reply (core_of old).state (length before) value by))

  -- ---- a delegation

  -- it waits at the end of its lane
  entered-lanes : (old new : List (Queue (Waiting C O R))) (lane : ℕ) (waiting : Waiting C O R) →
      queued new ≡ with_entry lane waiting (queued old) →
      lanes_of new ≡ with_entry lane (entry_of waiting) (lanes_of old)
  entered-lanes old new lane waiting is =
      ap (λ l. map (λ entries. map entry_of entries) l) is
      ∙ with_entry-map entry_of (queued old) lane waiting

  pub entered_as : (before : List (Call C O)) (old : Store C O R)
      (new : List (Queue (Waiting C O R))) (object : ObjectId) (op : O) (reading : Option ObjectId)
      (number epoch lane : ℕ) (set : SetId) (read : Option C) →
      number ≡ length (shapes_of m before) → epoch ≡ epoch_count (shapes_of m before) →
      set.0 ≡ set_of (shapes_of m before) object.0 (m.own op) →
      read ≡ value_read old.values.items reading →
      lane ≡ lane_of_set set.0 (length old.lanes.items) →
      queued new ≡ with_entry lane (record {
        run = record { call = call_no number; epoch = epoch; set = set; object = object };
        op = op;
        read = read;
      }) (queued old.lanes.items) →
      record { state = (core_of old).state; lanes = lanes_of new }
      ≡ call_event m before (core_of old) (call.Delegate object op reading)
  entered_as before old new object op reading number epoch lane set read number_is epoch_is set_is
      read_is lane_is is =
      let core = core_of old in
      let run : Run = record { call = call_no number; epoch = epoch; set = set; object = object } in
      let here : lane ≡ lane_of_set set.0 (length core.lanes) =
      lane_is ∙ ap (lane_of_set set.0) (sym (length-lanes_of old.lanes.items)) in
      let put : lanes_of new ≡ with_entry (lane_of_set set.0 (length core.lanes))
      (record { run = run; op = op; read = read }) core.lanes =
      entered-lanes old.lanes.items new lane _ is
      ∙ ap (λ l. with_entry l (record { run = run; op = op; read = read }) core.lanes) here in
      let named : run ≡ record {
        call = call_no (length (shapes_of m before));
        epoch = epoch_count (shapes_of m before);
        set = set_id (set_of (shapes_of m before) object.0 (m.own op));
        object = object;
      } = ap (λ n. record { call = call_no n; epoch = epoch; set = set; object = object }) number_is
      ∙ ap (λ e. record {
        call = call_no (length (shapes_of m before));
        epoch = e;
        set = set;
        object = object;
      }) epoch_is
      ∙ ap (λ s. record {
        call = call_no (length (shapes_of m before));
        epoch = epoch_count (shapes_of m before);
        set = set_id s;
        object = object;
      }) set_is in
      ap (λ l. record { state = core.state; lanes = l }) put
      ∙ ap (λ x. entered core op x (Some run)) read_is
      ∙ ap (λ x. entered core op (value_read old.values.items reading) (Some x)) named

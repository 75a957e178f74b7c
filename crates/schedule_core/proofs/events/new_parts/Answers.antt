use Rattle.std.proofs.Common.{◌≡◌, Some, [], length, map, take, drop, refl, sym, ap, ◌∙◌, subst, arith}
use Rattle.std.proofs.lemmas.List.{length-replicate}
use Rattle.ss_base.specs.declared.ids.CallNo.{CallNo}
use Rattle.execution_definitions.specs.Meanings.{shapes_of}
use Rattle.execution_definitions.specs.Sequential.{initial_state}
use Rattle.delegation.specs.PlainParts.{state_of}
use Rattle.partition_check.specs.Represents.{Represents}
use Rattle.schedule_core.specs.Stores.{entry_of, lanes_of}
use Rattle.schedule_core.proofs.QueueLemmas.{length-queued}
use Rattle.schedule_core.proofs.StoreLemmas.{no_entries}
use Rattle.schedule_core.proofs.EventLemmas.{machine_same}
use Rattle.schedule_core.proofs.events.new_parts.Goals as goal

pub returns-clause-kept : goal.returns-clause-kept
returns-clause-kept g c =
    let m = g.C.LocalClass.local_meaning in
    let marks = c.new.ensures in
    let lanes = c.in_ok-empty_lanes.field-0 in
    let program = c.of-program.result.value in
    let some = c.requires.some in
    let few = c.requires.few in
    let count : length lanes.items ≡ c.args.lane_count =
    sym (length-queued lanes.items) ∙ ap length c.in_ok-empty_lanes.ensures
    ∙ length-replicate c.args.lane_count [] in
    record {
      fit = record {
        values = ap length c.new-2.ensures.items ∙ sym marks.objects;
        some_lane = omega (arith, count, some);
        few_lanes = omega (arith, count, few);
      };
      marks = subst (λ n. Represents c.new.result (shapes_of m (take n program.items)))
          (sym marks.call_count) marks;
      left = λ none. c.from.ensures.0 ∙ ap (λ v. v.items) (sym c.of-program.ensures)
          ∙ ap (λ n. drop n program.items) (sym marks.call_count);
    }

pub returns-clause-state : goal.returns-clause-state
returns-clause-state g c =
    let m = g.C.LocalClass.local_meaning in
    let lanes = c.in_ok-empty_lanes.field-0 in
    machine_same _ _ c.new.ensures.call_count
    (ap (λ v. record { state = state_of v c.local_unit.result; lanes = lanes_of lanes.items })
    c.new-2.ensures.items
    ∙ ap (λ t. record { state = state_of [] t; lanes = lanes_of lanes.items })
    (c.local_unit.ensures ∙ sym g.met.C.LocalClass.local_same_unit)
    ∙ ap (λ l. record { state = initial_state m; lanes = l })
    (ap (λ l. map (λ entries. map entry_of entries) l) c.in_ok-empty_lanes.ensures
    ∙ no_entries entry_of c.args.lane_count 0))
    (ap (map Some) c.new-3.ensures.items) refl
    (ap (map (λ (number : CallNo). number.0)) c.new-4.ensures.items)

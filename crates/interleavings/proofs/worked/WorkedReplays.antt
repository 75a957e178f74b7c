-- Two objects in two sets, computed: what two lanes make of them under schedules, and in other orders.
use Rattle.std.proofs.Common.{◌≡◌, ℕ, ◌+◌, true, false, None, List, [], ◌∷◌, refl}
use Rattle.ss_base.specs.declared.ids.Event.{Event}
use Rattle.ss_base.specs.declared.ids.Event.TheVariants as event
use Rattle.ss_base.specs.Ids.{object_id}
use Rattle.execution_definitions.specs.declared.serializer.By.TheVariants.{Object}
use Rattle.execution_definitions.specs.declared.call.Call.{Call}
use Rattle.execution_definitions.specs.declared.call.Call.TheVariants as call
use Rattle.execution_definitions.specs.Soundness.{first_break}
use Rattle.execution_definitions.specs.Meanings.{Meaning, shapes_of}
use Rattle.execution_definitions.specs.Sequential.{sequential_state}
use Rattle.interleavings.specs.Merges.{must_stand_before, replay_list}
use Rattle.interleavings.specs.Machines.{MachineState, initial_machine, is_enabled, after_schedule, FollowsRule, IsReplay}

-- an operation adds its number and contributes nothing
acting : Meaning ℕ ℕ ℕ
acting = record {
  step = λ value op read. (value + op, 0);
  own = λ op. 0;
  unit = 0;
  join = λ a b. a + b;
}

-- objects of 5 and 6; to the first 1 and then 2 is added, and to the second 1 between
calls : List (Call ℕ ℕ)
calls =
    call.Make 5 Object ∷ call.Make 6 Object ∷ call.Begin ∷ call.Delegate (object_id 0) 1 None ∷
    call.Delegate (object_id 1) 1 None ∷ call.Delegate (object_id 0) 2 None ∷ call.End ∷
    call.Get (object_id 0) ∷ []

sound : first_break (shapes_of acting calls) ≡ None
unfolding acting calls
sound = refl

lane_0 : Event
lane_0 = event.Delegate (record { 0 = 0 })

lane_1 : Event
lane_1 = event.Delegate (record { 0 = 1 })

-- under a schedule in which lane 1 comes first
under : List Event
unfolding lane_1
under =
    event.Program ∷ event.Program ∷ event.Program ∷ event.Program ∷ event.Program ∷ lane_1 ∷ []

-- and then by the rule
then_by_rule : List Event
unfolding lane_0
then_by_rule =
    event.Program ∷ lane_0 ∷ lane_0 ∷ event.Program ∷ event.Program ∷ []

at_end : MachineState ℕ ℕ ℕ
unfolding acting calls under then_by_rule lane_0 lane_1
at_end = after_schedule acting calls (after_schedule acting calls (initial_machine acting 2) under)
    then_by_rule

replay : IsReplay acting calls 2 under at_end
unfolding acting calls under then_by_rule lane_0 lane_1 at_end
replay = record {
  by_rule = then_by_rule;
  follows = (refl, (refl, (refl, (refl, (refl, refl)))));
  is = refl;
}

order_at_end : at_end.order ≡ 0 ∷ 1 ∷ 2 ∷ 4 ∷ 3 ∷ 5 ∷ 6 ∷ 7 ∷ []
unfolding acting calls under then_by_rule lane_0 lane_1 at_end
order_at_end = refl

state_at_end : at_end.core.state ≡ sequential_state acting calls
unfolding acting calls under then_by_rule lane_0 lane_1 at_end
state_at_end = refl

values_at_end : at_end.core.state.values ≡ 8 ∷ 7 ∷ []
unfolding acting calls under then_by_rule lane_0 lane_1 at_end
values_at_end = refl

-- under no schedule the rule takes lane 0 first
all_by_rule : List Event
unfolding lane_0 lane_1
all_by_rule =
    event.Program ∷ event.Program ∷ event.Program ∷ event.Program ∷ event.Program ∷
    event.Program ∷ lane_0 ∷ lane_0 ∷ lane_1 ∷ event.Program ∷ event.Program ∷ []

follows_all : FollowsRule acting calls (initial_machine acting 2) all_by_rule
unfolding acting calls all_by_rule lane_0 lane_1
follows_all =
    (refl, (refl, (refl, (refl, (refl, (refl, (refl, (refl, (refl, (refl, (refl, refl)))))))))))

order_by_rule : (after_schedule acting calls (initial_machine acting 2) all_by_rule).order
    ≡ 0 ∷ 1 ∷ 2 ∷ 3 ∷ 5 ∷ 4 ∷ 6 ∷ 7 ∷ []
unfolding acting calls all_by_rule lane_0 lane_1
order_by_rule = refl

-- an end doesn't pass what waits
end_waits :
    is_enabled acting calls (after_schedule acting calls (initial_machine acting 2)
    (event.Program ∷ event.Program ∷ event.Program ∷ event.Program ∷ event.Program ∷
    event.Program ∷ lane_0 ∷ lane_0 ∷ [])) event.Program ≡ false
unfolding acting calls lane_0
end_waits = refl

-- a lane past the last has nothing to take
no_lane_2 : is_enabled acting calls (after_schedule acting calls (initial_machine acting 2) all_by_rule)
    (event.Delegate (record { 0 = 2 })) ≡ false
unfolding acting calls all_by_rule lane_0 lane_1
no_lane_2 = refl

-- the two sets may be exchanged
merged : replay_list acting calls (0 ∷ 1 ∷ 2 ∷ 4 ∷ 3 ∷ 5 ∷ 6 ∷ 7 ∷ [])
    ≡ record { values = 8 ∷ 7 ∷ []; total = 0 }
unfolding acting calls
merged = refl

-- the runs of one may not, and the end comes after both
same_lane : must_stand_before 2 (shapes_of acting calls) 3 5 ≡ true
unfolding acting calls
same_lane = refl

other_lane : must_stand_before 2 (shapes_of acting calls) 3 4 ≡ false
unfolding acting calls
other_lane = refl

end_after : must_stand_before 2 (shapes_of acting calls) 5 6 ≡ true
unfolding acting calls
end_after = refl

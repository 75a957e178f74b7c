-- A small program, computed: what must stand before what, and what a machine makes of it.
use Rattle.std.proofs.Common.{◌≡◌, ℕ, ◌+◌, true, false, Some, None, List, [], ◌∷◌, refl}
use Rattle.ss_base.specs.declared.ids.Event.TheVariants as event
use Rattle.ss_base.specs.Ids.{object_id, call_no}
use Rattle.execution_definitions.specs.declared.serializer.By.TheVariants.{Own}
use Rattle.execution_definitions.specs.declared.call.Call.{Call}
use Rattle.execution_definitions.specs.declared.call.Call.TheVariants as call
use Rattle.execution_definitions.specs.declared.call.Reply.TheVariants as reply
use Rattle.execution_definitions.specs.Shapes.{Shape}
use Rattle.execution_definitions.specs.Soundness.{first_break}
use Rattle.execution_definitions.specs.Meanings.{Meaning, shapes_of}
use Rattle.execution_definitions.specs.Sequential.{sequential_state}
use Rattle.interleavings.specs.Merges.{must_stand_before, replay_list}
use Rattle.interleavings.specs.Machines.{MachineState, drained, initial_machine, is_enabled, after_schedule}

-- an operation names the set of its number, adds it, and contributes what it finds
adding : Meaning ℕ ℕ ℕ
adding = record {
  step = λ value op read. (value + op, value);
  own = λ op. op;
  unit = 0;
  join = λ a b. a + b;
}

-- an object, delegated to one set, looked at, delegated to another, looked at
calls : List (Call ℕ ℕ)
calls =
    call.Make 5 Own ∷ call.Begin ∷ call.Delegate (object_id 0) 1 None ∷ call.Get (object_id 0) ∷
    call.Delegate (object_id 0) 2 None ∷ call.Get (object_id 0) ∷ call.End ∷ []

shapes : List Shape
unfolding adding calls
shapes = shapes_of adding calls

sound : first_break shapes ≡ None
unfolding adding calls shapes
sound = refl

-- of two lanes: the two delegations are not ordered by themselves, but by the get between
apart_lanes : must_stand_before 2 shapes 2 4 ≡ false
unfolding adding calls shapes
apart_lanes = refl

get_waits : must_stand_before 2 shapes 2 3 ≡ true
unfolding adding calls shapes
get_waits = refl

then_second : must_stand_before 2 shapes 3 4 ≡ true
unfolding adding calls shapes
then_second = refl

second_get : must_stand_before 2 shapes 4 5 ≡ true
unfolding adding calls shapes
second_get = refl

-- the last get waits for the second lane alone
first_lane_free : must_stand_before 2 shapes 2 5 ≡ false
unfolding adding calls shapes
first_lane_free = refl

replayed : replay_list adding calls (0 ∷ 1 ∷ 2 ∷ 3 ∷ 4 ∷ 5 ∷ 6 ∷ [])
    ≡ sequential_state adding calls
unfolding adding calls
replayed = refl

-- three calls taken: the delegation waits in lane 1, and the get waits for it
taken : MachineState ℕ ℕ ℕ
unfolding adding calls
taken = after_schedule adding calls (initial_machine adding 2)
    (event.Program ∷ event.Program ∷ event.Program ∷ event.Program ∷ [])

waits : is_enabled adding calls taken event.Program ≡ false
unfolding adding calls taken
waits = refl

order_so_far : taken.order ≡ 0 ∷ 1 ∷ []
unfolding adding calls taken
order_so_far = refl

value_so_far : taken.core.state ≡ record { values = 5 ∷ []; total = 0 }
unfolding adding calls taken
value_so_far = refl

drains : drained adding taken.core ≡ record { values = 6 ∷ []; total = 5 }
unfolding adding calls taken
drains = refl

-- once the lane has taken it the get is answered
then_taken : MachineState ℕ ℕ ℕ
unfolding adding calls taken
then_taken = after_schedule adding calls taken
    (event.Delegate (record { 0 = 1 }) ∷ event.Program ∷ [])

answered : then_taken.replies
    ≡ Some (reply.Made (object_id 0)) ∷ Some reply.Done ∷ Some (reply.Sent (call_no 2))
    ∷ Some (reply.Value 6) ∷ []
unfolding adding calls taken then_taken
answered = refl

order_then : then_taken.order ≡ 0 ∷ 1 ∷ 2 ∷ 3 ∷ []
unfolding adding calls taken then_taken
order_then = refl

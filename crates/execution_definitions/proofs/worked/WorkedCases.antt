-- A small execution, computed: what the definitions say of it.
use Rattle.std.proofs.Common.{◌≡◌, true, Some, None, List, [], ◌∷◌, ◌++◌, refl}
use Rattle.ss_base.specs.Ids.{object_id, set_id}
use Rattle.execution_definitions.specs.declared.serializer.By.TheVariants.{Sequence, Own}
use Rattle.execution_definitions.specs.declared.refusal.Refusal.TheVariants.{TwoSets, Shared}
use Rattle.execution_definitions.specs.Shapes.{Shape, make, make_fixed, begin, delegate, write, get, end}
use Rattle.execution_definitions.specs.Sets.{set_of}
use Rattle.execution_definitions.specs.Epochs.{isolating, epoch_count}
use Rattle.execution_definitions.specs.Held.{last_set, held_set}
use Rattle.execution_definitions.specs.Refusals.{breaks}
use Rattle.execution_definitions.specs.Soundness.{first_break}
use Rattle.execution_definitions.specs.Runs.{sent, operations_of}

-- objects 0 to 3: read-only, by sequence, by sequence, by the operation. In epoch 1 object 1 is
-- delegated to and object 3 to set 5; in epoch 2 object 3 goes to set 1, where object 2 is too
calls : List Shape
calls =
    make_fixed ∷ make Sequence ∷ make Sequence ∷ make Own ∷
    begin ∷ delegate 1 7 (Some 0) ∷ delegate 3 5 None ∷ end ∷
    begin ∷ delegate 3 1 None ∷ delegate 2 7 None ∷ []

sets : set_of calls 2 7 ≡ 1
unfolding calls
sets = refl

epochs : epoch_count calls ≡ 2
unfolding calls
epochs = refl

still_isolating : isolating calls ≡ true
unfolding calls
still_isolating = refl

sound : first_break calls ≡ None
unfolding calls
sound = refl

-- object 3 is held to set 1 now, whatever it was held to in epoch 1
held : breaks calls (delegate 3 5 None) ≡ Some (TwoSets (object_id 3) (set_id 1) (set_id 5))
unfolding calls
held = refl

-- a get of it frees it for another set, and keeps what its last delegation was
freed : held_set (calls ++ get 3 ∷ []) 3 ≡ None
unfolding calls
freed = refl

last : last_set (calls ++ get 3 ∷ []) 3 ≡ Some 1
unfolding calls
last = refl

another_set : held_set (calls ++ get 3 ∷ delegate 3 5 None ∷ []) 3 ≡ Some 5
unfolding calls
another_set = refl

-- a get of another object doesn't
not_freed : held_set (calls ++ get 2 ∷ []) 3 ≡ Some 1
unfolding calls
not_freed = refl

-- written, it may be read, and then it is read-shared, whoever gets it
read : breaks (calls ++ write 3 ∷ []) (delegate 2 7 (Some 3)) ≡ None
unfolding calls
read = refl

shared :
    breaks (calls ++ write 3 ∷ delegate 2 7 (Some 3) ∷ get 3 ∷ []) (delegate 3 1 None)
    ≡ Some (Shared (object_id 3))
unfolding calls
shared = refl

-- sets 0, 5, 1 and 1 among two delegates
sent_to_lane_1 : sent calls 2 1 ≡
    record { call = record { 0 = 6 }; epoch = 1; set = set_id 5; object = object_id 3 } ∷
    record { call = record { 0 = 9 }; epoch = 2; set = set_id 1; object = object_id 3 } ∷
    record { call = record { 0 = 10 }; epoch = 2; set = set_id 1; object = object_id 2 } ∷ []
unfolding calls
sent_to_lane_1 = refl

both_of_set_1 : operations_of calls 2 1 ≡ 9 ∷ 10 ∷ []
unfolding calls
both_of_set_1 = refl

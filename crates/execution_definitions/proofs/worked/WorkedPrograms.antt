-- A small program on numbers, computed: what it leaves, and what it is answered.
use Rattle.std.proofs.Common.{◌≡◌, ℕ, ◌+◌, Some, List, [], ◌∷◌, refl}
use Rattle.std.specs.Option.{unwrap_or}
use Rattle.ss_base.specs.Ids.{object_id, call_no}
use Rattle.execution_definitions.specs.declared.serializer.By.TheVariants as by
use Rattle.execution_definitions.specs.declared.refusal.Refusal.TheVariants.{ReadOnly}
use Rattle.execution_definitions.specs.declared.call.Call.{Call}
use Rattle.execution_definitions.specs.declared.call.Call.TheVariants as call
use Rattle.execution_definitions.specs.declared.call.Reply.TheVariants as reply
use Rattle.execution_definitions.specs.Meanings.{Meaning}
use Rattle.execution_definitions.specs.Sequential.{sequential_state}
use Rattle.execution_definitions.specs.Programs.{sound_front, HasAnswered}

-- an operation adds its number and the number read, and contributes the number that it finds
adding : Meaning ℕ ℕ ℕ
adding = record {
  step = λ value op read. (value + op + unwrap_or read 0, value);
  own = λ op. op;
  unit = 0;
  join = λ a b. a + b;
}

-- object 0 is made with 5, and object 1, which is read-only, with 10. A delegation adds 1 and reads
-- object 1; the program context adds 4 and looks. Then it writes to object 1, which is refused
calls : List (Call ℕ ℕ)
calls =
    call.Make 5 by.Object ∷ call.MakeFixed 10 ∷ call.Begin ∷
    call.Delegate (object_id 0) 1 (Some (object_id 1)) ∷ call.Write (object_id 0) 4 ∷
    call.Get (object_id 0) ∷ call.End ∷ call.Total ∷ call.Write (object_id 1) 1 ∷ call.Total ∷ []

-- 5 + 1 + 10, and then + 4; 5 and 16 are contributed
state : sequential_state adding (sound_front adding calls)
    ≡ record { values = 20 ∷ 10 ∷ []; total = 21 }
unfolding adding calls
state = refl

answered : HasAnswered adding calls
    (reply.Made (object_id 0) ∷ reply.Made (object_id 1) ∷ reply.Done ∷ reply.Sent (call_no 3) ∷
    reply.Done ∷ reply.Value 20 ∷ reply.Done ∷ reply.Total 21 ∷ [])
    (Some (ReadOnly (object_id 1)))
unfolding adding calls
answered = record { replies = refl; stopped = refl }

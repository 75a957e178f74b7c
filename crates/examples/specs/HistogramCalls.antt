-- Which calls count the bases of blocks?
--
-- Object 0 is the spelling, which is only read. The blocks follow, each with a set of its own. In one
-- epoch each is counted, reading the spelling.
use Rattle.std.specs.Prelude.{ℕ, ◌+◌, List, [], ◌∷◌, ◌++◌, Some, map, length}
use Rattle.std.specs.List.{range_with_len}
use Rattle.ss_base.specs.Ids.{object_id}
use Rattle.execution_definitions.specs.declared.call.Call.{Call}
use Rattle.execution_definitions.specs.declared.call.Call.TheVariants.{Make, MakeFixed, Begin, Delegate, End}
use Rattle.execution_definitions.specs.declared.serializer.By.TheVariants.{Object}
use Rattle.examples.specs.declared.bases.Spelling.{Spelling}
use Rattle.examples.specs.declared.bases.Count.{Count}
use Rattle.examples.specs.declared.bases.Part.{Part}
use Rattle.examples.specs.declared.bases.Part.TheVariants as part

-- a call on the parts
abbrev pub PartCall : Type 0
PartCall = Call Part Count

-- a block is made
abbrev pub make_block : List ℕ → PartCall
make_block bytes = Make (part.Block bytes) Object

-- the block at a place is counted
abbrev pub count_call : ℕ → PartCall
count_call place = Delegate (object_id (1 + place)) (record {}) (Some (object_id 0))

-- so many blocks are
abbrev pub count_calls : ℕ → List PartCall
count_calls blocks = map count_call (range_with_len 0 blocks)

-- all calls
abbrev pub histogram_calls : Spelling → List (List ℕ) → List PartCall
histogram_calls spelling blocks =
    MakeFixed (part.Spelling spelling) ∷ map make_block blocks
    ++ (Begin ∷ count_calls (length blocks) ++ End ∷ [])

-- Do marks and the list of calls that they represent agree on every call to come?
--
-- They do. So a runtime that keeps marks alone refuses exactly the first call that the rule
-- refuses.
use Rattle.std.specs.Prelude.{◌≡◌, None, List, [], ◌∷◌, ◌++◌}
use Rattle.execution_definitions.specs.Shapes.{Shape}
use Rattle.execution_definitions.specs.Refusals.{breaks}
use Rattle.partition_check.specs.Marked.{Marked}
use Rattle.partition_check.specs.Judged.{judged}
use Rattle.partition_check.specs.MarkedAfter.{marked_after}
use Rattle.partition_check.specs.Represents.{Represents}

-- of one call: the marks refuse it as the rule does, and accepted it is on the list
pub record Follows (marked : Marked) (calls : List Shape) (call : Shape) : Type 0 where
  pub same_refusal : judged marked call ≡ breaks calls call
  pub represents :
      breaks calls call ≡ None → Represents (marked_after marked call) (calls ++ call ∷ [])

-- of every call, after every list, by all marks that represent it
abbrev pub MarksFollowTheRule : Type 0
MarksFollowTheRule =
    (marked : Marked) (calls : List Shape) → Represents marked calls → (call : Shape) →
    Follows marked calls call

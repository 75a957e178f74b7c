-- Marks follow the rule, on every call.
use Rattle.std.proofs.Common.{◌≡◌, None, List, [], ◌∷◌, ◌++◌, refl}
use Rattle.execution_definitions.specs.Shapes.{Shape, make, make_fixed, begin, delegate, write, get, end, total}
use Rattle.execution_definitions.specs.Refusals.{breaks}
use Rattle.partition_check.specs.Marked.{Marked}
use Rattle.partition_check.specs.Judged.{judged}
use Rattle.partition_check.specs.MarkedAfter.{marked_after}
use Rattle.partition_check.specs.Represents.{Represents}
use Rattle.partition_check.specs.Theorem.{MarksFollowTheRule}
use Rattle.partition_check.proofs.represents.JudgedLemmas.{known_as, judged_make-represents, judged_delegate-represents, judged_write-represents}
use Rattle.partition_check.proofs.represents.RepresentsLemmas.{make-represents, make_fixed-represents, begin-represents, end-represents}
use Rattle.partition_check.proofs.represents.DelegateLemmas.{delegate-represents}
use Rattle.partition_check.proofs.represents.NoteLemmas.{noted-represents}
use Rattle.std.specs.Prelude.{Some}

-- every call is refused as by the rule
pub judged-represents : (marked : Marked) (calls : List Shape) → Represents marked calls →
    (call : Shape) → judged marked call ≡ breaks calls call
judged-represents marked calls r (make by) = judged_make-represents (Some by) marked calls r
judged-represents marked calls r make_fixed = judged_make-represents None marked calls r
judged-represents marked calls r begin = rw (r.is_open, r.call_count) refl
judged-represents marked calls r (delegate o own reading) =
    judged_delegate-represents marked calls r o own reading _ refl
judged-represents marked calls r (write o) = judged_write-represents marked calls r o _ refl
judged-represents marked calls r (get o) =
    rw (known_as marked calls r o _ refl, r.call_count) refl
judged-represents marked calls r end = rw (r.is_open, r.call_count) refl
judged-represents marked calls r total = rw (r.is_open, r.call_count) refl

-- every accepted call is on the list
pub marked_after-represents : (marked : Marked) (calls : List Shape) → Represents marked calls →
    (call : Shape) → breaks calls call ≡ None →
    Represents (marked_after marked call) (calls ++ call ∷ [])
marked_after-represents marked calls r (make by) ok = make-represents by marked calls r ok
marked_after-represents marked calls r make_fixed ok = make_fixed-represents marked calls r ok
marked_after-represents marked calls r begin ok = begin-represents marked calls r ok
marked_after-represents marked calls r (delegate o own reading) ok =
    delegate-represents marked calls o own reading r ok
marked_after-represents marked calls r (write o) ok =
    noted-represents marked calls (write o) r (Some o) refl ok
marked_after-represents marked calls r (get o) ok =
    noted-represents marked calls (get o) r (Some o) refl ok
marked_after-represents marked calls r end ok = end-represents marked calls r ok
marked_after-represents marked calls r total ok =
    noted-represents marked calls total r None tt ok

-- the two together
pub marks_follow : MarksFollowTheRule
marks_follow marked calls r call = record {
  same_refusal = judged-represents marked calls r call;
  represents = marked_after-represents marked calls r call;
}

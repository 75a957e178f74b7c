-- Is an answer the one that a row of refusals gives?
use Rattle.std.specs.Prelude.{◌≡◌, Option, Some, None, List, Result, Ok, Err}
use Rattle.execution_definitions.specs.declared.serializer.By.{By}
use Rattle.execution_definitions.specs.declared.refusal.Refusal.{Refusal}
use Rattle.execution_definitions.specs.Shapes.{Shape, make, make_fixed}
use Rattle.execution_definitions.specs.Refusals.{breaks}
use Rattle.partition_check.specs.Marked.{Marked}
use Rattle.partition_check.specs.Represents.{Represents}
use Rattle.partition_check.specs.declared.fault.MarkFault.{MarkFault}
use Rattle.partition_check.specs.declared.fault.MarkFault.TheVariants.{Refused, OutOfMemory}

-- Ok exactly where there is no refusal, and else that refusal
abbrev pub Answers : {T : Type 0} → Result T Refusal → Option Refusal → Type 0
Answers (Ok value) cause = cause ≡ None
Answers (Err refusal) cause = cause ≡ Some refusal

-- for every list that the marks represent, the answer is the rule's
abbrev pub AnswersRule : {T : Type 0} → Result T Refusal → Marked → Shape → Type 0
AnswersRule result marked call =
    (calls : List Shape) → Represents marked calls → Answers result (breaks calls call)

-- the same, where memory can be wanted: only of a call that isn't refused
abbrev pub AnswersMake : {T : Type 0} → Result T MarkFault → Option Refusal → Type 0
AnswersMake (Ok value) cause = cause ≡ None
AnswersMake (Err (Refused refusal)) cause = cause ≡ Some refusal
AnswersMake (Err OutOfMemory) cause = cause ≡ None

-- and for every list
abbrev pub AnswersMakeRule : {T : Type 0} → Result T MarkFault → Marked → Shape → Type 0
AnswersMakeRule result marked call =
    (calls : List Shape) → Represents marked calls → AnswersMake result (breaks calls call)

-- the call that makes an object: read-only where no serializer is asked for
abbrev pub making : Option By → Shape
making None = make_fixed
making (Some by) = make by

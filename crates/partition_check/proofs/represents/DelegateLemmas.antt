-- Marks that represent a list represent it with an accepted delegation more.
use Rattle.std.proofs.Common.{◌≡◌, ℕ, true, Option, Some, None, List, [], ◌∷◌, ◌++◌, refl, ◌∙◌, subst}
use Rattle.std.specs.Prelude.{slice_get}
use Rattle.std.proofs.lemmas.Bool.{eqb-true}
use Rattle.execution_definitions.specs.Shapes.{Shape, delegate}
use Rattle.execution_definitions.specs.Epochs.{isolating}
use Rattle.execution_definitions.specs.Refusals.{breaks}
use Rattle.execution_definitions.proofs.shapes.RefusalsLemmas.{first_of-none}
use Rattle.partition_check.specs.declared.mark.Mark.{Mark}
use Rattle.partition_check.specs.Marked.{Marked}
use Rattle.partition_check.specs.MarkedAfter.{with_set, with_reader, changed_at, with_reader_at, marked_after}
use Rattle.partition_check.specs.Represents.{Represents, IsMarkOf}
use Rattle.partition_check.proofs.represents.MarkLemmas.{IsHalfway, halfway_to, halfway_elsewhere, whole_read, whole_unread}
use Rattle.partition_check.proofs.represents.KnownLemmas.{within_objects}
use Rattle.partition_check.proofs.marked.AcceptedLemmas.{is_open_then}
use Rattle.partition_check.proofs.marked.ChangedLemmas.{length-changed_at, length-changed_where, changed_mark}
use Rattle.partition_check.proofs.represents.RepresentsLemmas.{AllRight, plain-represents}

module _ (marked : Marked) (calls : List Shape) (o own : ℕ) (reading : Option ℕ)
    (r : Represents marked calls)
    (ok : breaks calls (delegate o own reading) ≡ None) where
  opened : isolating calls ≡ true
  opened = is_open_then (isolating calls)
      (first_of-none _ _ (first_of-none _ _ (first_of-none _ _ ok).1).1).0

  -- with the object held to its set, each mark is halfway
  halfway_all : (object : ℕ) (mark : Mark) →
      slice_get (changed_at o (with_set o own) marked.objects) object ≡ Some mark →
      IsHalfway calls (delegate o own reading) object mark
  halfway_all object mark some =
      changed_mark (with_set o own) marked.objects o object mark some
      (λ before at was is.
      let same : o ≡ object = eqb-true o object at in
      let was_there : slice_get marked.objects o ≡ Some before = rw same was in
      subst (λ m. IsHalfway calls (delegate o own reading) object m) is
      (subst (λ n. IsHalfway calls (delegate o own reading) n (with_set o own before)) same
      (halfway_to calls o own reading opened before
      (within_objects marked calls r o before was_there) (r.each o before was_there))))
      (λ other was. halfway_elsewhere calls o own reading opened object mark
      (within_objects marked calls r object mark was) other (r.each object mark was))

  -- and right once the object read is marked
  whole_all : (given : Option ℕ) → reading ≡ given →
      AllRight (with_reader_at given (changed_at o (with_set o own) marked.objects))
      (calls ++ delegate o own reading ∷ [])
  whole_all None is object mark some =
      whole_unread calls o own reading opened object mark (rw is refl)
      (halfway_all object mark some)
  whole_all (Some read) is object mark some =
      changed_mark with_reader (changed_at o (with_set o own) marked.objects) read object mark some
      (λ before at was made. subst
      (λ m. IsMarkOf (calls ++ delegate o own reading ∷ []) object m) made
      (whole_read calls o own reading opened object before (rw (is, at) refl)
      (halfway_all object before was)))
      (λ other was. whole_unread calls o own reading opened object mark (rw (is, other) refl)
      (halfway_all object mark was))

  -- an accepted delegation
  pub delegate-represents : Represents (marked_after marked (delegate o own reading))
      (calls ++ delegate o own reading ∷ [])
  delegate-represents =
      plain-represents marked calls (delegate o own reading) _
      (record {
        within = record { no_begin = refl; no_end = refl };
        no_object = refl;
        no_sequence = refl;
      })
      r ok
      (length-changed_where with_reader reading (changed_at o (with_set o own) marked.objects)
      ∙ length-changed_at (with_set o own) marked.objects o)
      (whole_all reading refl)

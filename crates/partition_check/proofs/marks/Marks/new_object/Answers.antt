use Rattle.std.proofs.Common.{◌≡◌, None, ◌++◌, ◌∷◌, [], length, refl, sym, subst, ◌∙◌, arith}
use Rattle.std.proofs.lemmas.List.{length-map, map_push}
use Rattle.execution_definitions.specs.Refusals.{first_of, too_many_objects, too_many_calls}
use Rattle.partition_check.specs.Answers.{making}
use Rattle.partition_check.specs.MarkedAfter.{serializer_making}
use Rattle.partition_check.specs.Judged.{judged_make}
use Rattle.partition_check.specs.Represents.{Represents}
use Rattle.partition_check.proofs.cells.CellsLemmas.{mark_in-fresh, PartsFit-push}
use Rattle.partition_check.proofs.represents.JudgedLemmas.{judged_make-represents}
use Rattle.partition_check.proofs.marked.AcceptedLemmas.{room}
use Rattle.partition_check.proofs.represents.RepresentsLemmas.{made-represents, marked_after-making}
use Rattle.partition_check.proofs.marks.Marks.new_object.Goals as goal

pub invariant_of-self-2 : goal.invariant_of-self-2
invariant_of-self-2 c =
    let i = c.self.inside in
    let counted : c.len-number.result ≡ length i.cells.items = omega arith in
    let none : first_of (too_many_objects (length i.cells.items)) (too_many_calls i.calls) ≡ None =
    rw (← counted) (rw c.in_default.is at c.room_for_an_object.ensures) in
    let limits = room (length i.cells.items) i.calls none in
    rw c.sequence_objects_with-self-inside.ensures
    (PartsFit-push _ _ _ _ _ _ c.args.by c.fresh_cell-cell.result c.in-Ok.ensures.items
    (c.fresh_cell-cell.ensures.stamped i.epochs) limits.0 limits.1 c.self.invariant)

pub returns-clause-after : goal.returns-clause-after
returns-clause-after c =
    let i = c.self.inside in
    let clear = mark_in-fresh i.epochs i.is_open c.fresh_cell-cell.result
    (serializer_making c.args.by i.sequence_objects) c.self.invariant.first
    c.fresh_cell-cell.ensures.mark c.fresh_cell-cell.ensures.closed in
    rw (
      marked_after-making c.args.by c.args.self.now,
      ← c.self.view_is,
      c.in-Ok.ensures.items,
      map_push,
      clear,
      c.sequence_objects_with-self-inside.ensures,
    ) refl

pub returns-clause-represents : goal.returns-clause-represents
returns-clause-represents c = λ calls r.
    let counted : c.len-number.result ≡ length c.self.inside.cells.items = omega arith in
    let none : judged_make c.args.self.now ≡ None =
    rw (← c.self.view_is, length-map, ← counted)
    (rw c.in_default.is at c.room_for_an_object.ensures) in
    subst (λ v. Represents v (calls ++ making c.args.by ∷ []))
    (sym (returns-clause-after c ∙ marked_after-making c.args.by c.args.self.now))
    (made-represents c.args.by _ calls r (sym (judged_make-represents c.args.by _ calls r) ∙ none))

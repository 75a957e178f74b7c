use Rattle.std.proofs.Common.{◌≡◌, length, ap, arith, ◌∙◌}
use Rattle.execution_definitions.specs.Meanings.{number_given}
use Rattle.partition_check.specs.MarkedAfter.{with_set}
use Rattle.partition_check.proofs.marked.AcceptedLemmas.{HasMark-longer}
use Rattle.partition_check.proofs.marked.ChangedLemmas.{length-changed_at, IsReadFree-elsewhere}
use Rattle.partition_check.proofs.marks.Marks.mark_delegation.Goals as goal

pub share-requires-clause-known : goal.share-requires-clause-known
share-requires-clause-known c =
    let held = c.hold.ensures c.requires.set.0 c.requires.set.1 in
    HasMark-longer (number_given c.args.reading) _ _
    (ap (λ v. length v.objects) held
    ∙ length-changed_at (with_set c.args.o.0 c.requires.set.0) c.args.self.now.objects c.args.o.0)
    c.requires.delegable.read_known

pub share-requires-clause-isolating : goal.share-requires-clause-isolating
share-requires-clause-isolating c =
    let held = c.hold.ensures c.requires.set.0 c.requires.set.1 in
    ap (λ v. v.is_open) held ∙ c.requires.delegable.isolating

pub share-requires-clause-free : goal.share-requires-clause-free
share-requires-clause-free c =
    let held = c.hold.ensures c.requires.set.0 c.requires.set.1 in
    rw held
    (IsReadFree-elsewhere (with_set c.args.o.0 c.requires.set.0) c.args.self.now.objects
    c.args.o.0 (number_given c.args.reading) c.requires.delegable.read_other
    c.requires.delegable.read_free)

pub invariant_of-self : goal.invariant_of-self
invariant_of-self c =
    let kept = c.self.invariant in
    let held = c.hold.ensures c.requires.set.0 c.requires.set.1 in
    let same : c.self.inside.calls ≡ c.args.self.now.calls =
    ap (λ v. v.calls) c.self.view_is ∙ ap (λ v. v.calls) c.share.ensures
    ∙ ap (λ v. v.calls) held in
    record {
      stamped = kept.stamped;
      begun = omega (arith, kept.begun);
      call_limit = omega (arith, same, c.requires.delegable.room);
      first = kept.first;
      object_limit = kept.object_limit;
      sequences = kept.sequences;
    }

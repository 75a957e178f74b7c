use Rattle.std.proofs.Common.{◌≡◌, option_and_then, subst, sym, refl, rules}
use Rattle.partition_check.specs.Marked.{mark_at}
use Rattle.partition_check.specs.Represents.{IsDelegatedTo}
use Rattle.partition_check.proofs.represents.DelegatedLemmas.{delegated_to-represents}
use Rattle.partition_check.proofs.marks.Marks.delegated_to.Goals as goal

pub returns-in_err-mark-clause-calls : goal.returns-in_err-mark-clause-calls
returns-in_err-mark-clause-calls c = λ calls r.
    let marked : c.from_residual.result
    ≡ option_and_then (λ m. m.set) (mark_at c.args.self.now c.args.o.0) = search rules in
    subst (λ given. IsDelegatedTo calls c.args.o.0 given) (sym marked)
    (delegated_to-represents _ calls r _ _ refl)

pub returns-clause-calls : goal.returns-clause-calls
returns-clause-calls c = λ calls r.
    let marked : c.in_ok-mark.field-0.set
    ≡ option_and_then (λ m. m.set) (mark_at c.args.self.now c.args.o.0) = search rules in
    subst (λ given. IsDelegatedTo calls c.args.o.0 given) (sym marked)
    (delegated_to-represents _ calls r _ _ refl)

use Rattle.std.proofs.Common.{ℕ, List, subst, ◌∙◌}
use Rattle.std.specs.Prelude.{decimal}
use Rattle.ss_top.specs.Runs.{Tells}
use Rattle.ss_top.proofs.PartsLemmas.{three_parts}
use Rattle.ss_top.proofs.tell.tell_number.Goals as goal

pub returns : goal.returns
returns g c =
    let P : List ℕ → Type 0 =
    λ text. Tells (g.E.Sink.gained c.args.err.now) (g.E.Sink.gained c.tell.new.err)
    (g.E.Sink.faults c.args.err.now) (g.E.Sink.faults c.tell.new.err) text in
    subst P
    (three_parts c.args.before.now c.as_bytes-number.result.now c.args.after.now
    (decimal c.args.number) (c.as_bytes-number.ensures.value ∙ c.format.ensures.text))
    c.tell.ensures

use Rattle.std.proofs.Common.{ℕ, List, subst}
use Rattle.std.specs.Prelude.{codes}
use Rattle.ss_top.specs.Runs.{Tells}
use Rattle.ss_top.specs.Texts.{read_fault_text}
use Rattle.ss_top.proofs.PartsLemmas.{three_parts}
use Rattle.ss_top.proofs.tell.tell_read_fault.Goals as goal

pub returns : goal.returns
unfolding read_fault_text
returns g c =
    let P : List ℕ → Type 0 =
    λ text. Tells (g.E.Sink.gained c.args.err.now) (g.E.Sink.gained c.tell.new.err)
    (g.E.Sink.faults c.args.err.now) (g.E.Sink.faults c.tell.new.err) text in
    subst P
    (three_parts (codes "ssidx: cannot read ") c.as_bytes.result.now (codes "\n") c.args.name.now
    c.as_bytes.ensures.value)
    c.tell.ensures

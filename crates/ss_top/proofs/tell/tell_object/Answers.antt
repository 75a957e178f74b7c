use Rattle.std.proofs.Common.{ℕ, List, subst, ◌∙◌}
use Rattle.std.specs.Prelude.{codes, decimal}
use Rattle.ss_top.specs.Runs.{Tells}
use Rattle.ss_top.specs.Texts.{line_text, object_text}
use Rattle.ss_top.proofs.PartsLemmas.{object_parts}
use Rattle.ss_top.proofs.tell.tell_object.Goals as goal

pub returns : goal.returns
unfolding line_text object_text
returns g c =
    let P : List ℕ → Type 0 =
    λ text. Tells (g.E.Sink.gained c.args.err.now) (g.E.Sink.gained c.tell.new.err)
    (g.E.Sink.faults c.args.err.now) (g.E.Sink.faults c.tell.new.err) text in
    subst P
    (object_parts (codes "ssidx: line ") c.as_bytes-number.result.now (codes ": ")
    (codes "object ") c.as_bytes.result.now c.args.what.now (codes "\n")
    (decimal c.args.line) c.args.name.now
    (c.as_bytes-number.ensures.value ∙ c.format.ensures.text) c.as_bytes.ensures.value)
    c.tell.ensures

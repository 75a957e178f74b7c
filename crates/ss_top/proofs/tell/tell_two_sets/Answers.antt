use Rattle.std.proofs.Common.{ℕ, List, subst, ◌∙◌}
use Rattle.std.specs.Prelude.{codes, decimal}
use Rattle.ss_top.specs.Runs.{Tells}
use Rattle.ss_top.specs.Texts.{line_text, two_sets_text}
use Rattle.ss_top.proofs.PartsLemmas.{two_sets_parts}
use Rattle.ss_top.proofs.tell.tell_two_sets.Goals as goal

pub returns : goal.returns
unfolding line_text two_sets_text
returns g c =
    let P : List ℕ → Type 0 =
    λ text. Tells (g.E.Sink.gained c.args.err.now) (g.E.Sink.gained c.tell.new.err)
    (g.E.Sink.faults c.args.err.now) (g.E.Sink.faults c.tell.new.err) text in
    subst P
    (two_sets_parts (codes "ssidx: line ") c.as_bytes-number.result.now (codes ": ")
    (codes "object ") c.as_bytes.result.now (codes " is in set ")
    c.as_bytes-first_set.result.now (codes ", not in set ") c.as_bytes-second_set.result.now
    (codes "\n")
    (decimal c.args.line) c.args.name.now (decimal c.args.first.0) (decimal c.args.second.0)
    (c.as_bytes-number.ensures.value ∙ c.format.ensures.text) c.as_bytes.ensures.value
    (c.as_bytes-first_set.ensures.value ∙ c.format-2.ensures.text)
    (c.as_bytes-second_set.ensures.value ∙ c.format-3.ensures.text))
    c.tell.ensures

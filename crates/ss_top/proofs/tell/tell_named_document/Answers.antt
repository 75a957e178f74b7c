use Rattle.std.proofs.Common.{ℕ, List, subst, ◌∙◌}
use Rattle.std.specs.Prelude.{codes, decimal}
use Rattle.ss_top.specs.Runs.{Tells}
use Rattle.ss_top.specs.Texts.{document_limit_text}
use Rattle.ss_top.proofs.PartsLemmas.{five_parts}
use Rattle.ss_top.proofs.tell.tell_named_document.Goals as goal

pub returns : goal.returns
unfolding document_limit_text
returns g c =
    let P : List ℕ → Type 0 =
    λ text. Tells (g.E.Sink.gained c.args.err.now) (g.E.Sink.gained c.tell.new.err)
    (g.E.Sink.faults c.args.err.now) (g.E.Sink.faults c.tell.new.err) text in
    subst P
    (five_parts (codes "ssidx: limit: document ") c.as_bytes-number.result.now
    (codes " is over 8388608 bytes: ") c.as_bytes.result.now (codes "\n")
    (decimal c.args.document) c.args.name.now
    (c.as_bytes-number.ensures.value ∙ c.format.ensures.text) c.as_bytes.ensures.value)
    c.tell.ensures

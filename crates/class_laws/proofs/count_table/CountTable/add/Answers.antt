use Rattle.std.proofs.Common.{◌∙◌, ap, arith, sym}
use Rattle.std.proofs.lemmas.Result.{err_from_is_err_and}
use Rattle.std.specs.FinMap as finite
use Rattle.text_table.specs.TextMaps.{map_of}
use Rattle.text_table.proofs.TextMapsLemmas.{get-map_of, value_at}
use Rattle.class_laws.specs.Counts.{counts_after_add}
use Rattle.class_laws.proofs.counts.CountsLemmas.{counts_after_add-known, counts_after_add-new}
use Rattle.class_laws.proofs.counts.CountsLemmas.{AreCounts-with_value, AreCounts-push}
use Rattle.class_laws.proofs.count_table.CountTable.add.Goals as goal

-- the key was there
pub invariant_of-self : goal.invariant_of-self
invariant_of-self c =
    AreCounts-with_value c.self.inside.counts c.in-Ok.number _ c.self.invariant (omega arith)

pub returns-in-Ok-clause-ok : goal.returns-in-Ok-clause-ok
returns-in-Ok-clause-ok c =
    counts_after_add-known c.self.inside.counts c.args.key.now c.in-Ok.number
    c.value_mut-count.result.now c.args.by c.in-Ok.ensures.number c.value_mut-count.ensures.value
    ∙ ap (λ counts. counts_after_add counts c.args.key.now c.args.by) c.self.view_is

-- the key was new
pub returns-in_err-insert_absent-in-Err-clause-new_key
    : goal.returns-in_err-insert_absent-in-Err-clause-new_key
returns-in_err-insert_absent-in-Err-clause-new_key c =
    let entries = c.self.inside.counts in
    let key = c.args.key.now in
    let failed = err_from_is_err_and c.from_residual.result c.from_residual.ensures.1 in
    rw failed.1
    (ap (λ counts. finite.get counts key) (sym c.self.view_is)
    ∙ get-map_of key entries ∙ ap (value_at entries) c.in-Err.ensures.new_text)

pub invariant_of-self-in-Err : goal.invariant_of-self-in-Err
invariant_of-self-in-Err c =
    rw c.in_ok-insert_absent-in-Err.ensures.ok
    (AreCounts-push c.self.inside.counts c.args.key.now c.args.by c.self.invariant (omega arith))

pub returns-in_ok-insert_absent-in-Err-clause-ok : goal.returns-in_ok-insert_absent-in-Err-clause-ok
returns-in_ok-insert_absent-in-Err-clause-ok c =
    ap map_of c.in_ok-insert_absent-in-Err.ensures.ok
    ∙ counts_after_add-new c.self.inside.counts c.args.key.now c.args.by
    c.in-Err.ensures.new_text (omega arith)
    ∙ ap (λ counts. counts_after_add counts c.args.key.now c.args.by) c.self.view_is

use Rattle.std.proofs.Common.{ℕ, ◌<◌, List, length, set, sym, ap, ◌∙◌, arith}
use Rattle.std.proofs.lemmas.List.Edits.{map_over_more}
use Rattle.index_definitions.specs.Index.{TermRecord}
use Rattle.class_laws.specs.Counts.{count_of}
use Rattle.indexer.specs.Collected.{with_count}
use Rattle.index_definitions.specs.PostingLists.{PostingList}
use Rattle.indexer.proofs.terms.fill_totals.Goals as goal

abbrev with_total : List ℕ → PostingList → ℕ → TermRecord
with_total text places total = record { text = text; total = total; postings = places }

pub loop-term-preserved : goal.loop-term-preserved
loop-term-preserved c =
    let counts = c.args.counts.now in
    let old = c.args.terms.now.items in
    let now = c.loop-term.term-items in
    let i = c.loop-term.term-index in
    let term = c.term.inside in
    let below : i < length old =
    omega (arith, c.deref_mut-term-items.ensures.len) in
    let total = c.count-term-inside.ensures ∙ ap (count_of counts) c.as_str.ensures in
    ap (λ written. set now i written)
    (ap (with_total term.text term.postings) total
    ∙ ap (with_count counts) (c.term.view_is ∙ sym c.term-item.is))
    ∙ map_over_more (with_count counts) old now i c.term-item.result below
    c.loop-term.invariant c.term-item.is

use Rattle.std.proofs.Common.{◌≡◌, ◌<◌, ◌≤◌, ◌+◌, ◌∙◌, [], ◌∷◌, ap, ap₂, sym, subst, arith, length}
use Rattle.std.proofs.Common.{drop, get_or, map}
use Rattle.std.proofs.lemmas.List.{drop_more, drop_all, get_or-map, length-map}
use Rattle.std.proofs.lemmas.Result.{on_ok_weaker}
use Rattle.text_table.specs.TextTables.{AreDistinct}
use Rattle.class_laws.specs.Counts.{counts_join}
use Rattle.class_laws.specs.CountTables.{counts_of}
use Rattle.class_laws.proofs.counts.CountsLemmas.{counts_join-first, AreDistinct-drop}
use Rattle.indexer.proofs.TotalsLemmas.{size_in, counts_in-terms}
use Rattle.indexer.proofs.totals.add_counts.Goals as goal

pub loop-number-init : goal.loop-number-init
loop-number-init c =
    let counted = c.args.words.now in
    ap (counts_join c.args.counts.now)
    (counts_in-terms counted.terms counted.words c.terms-number-end.ensures.terms)

pub loop-number-preserved : goal.loop-number-preserved
loop-number-preserved c =
    let counted = c.args.words.now in
    let ts = counted.terms in
    let ns = map (size_in counted.words) ts in
    let k = c.loop-number.number in
    let before = c.loop-number.counts in
    let has : k < length ts = omega (arith, c.terms-number-end.ensures.len) in
    let len = length-map ts (size_in counted.words) in
    let term = c.term.result.now in
    let size = length c.positions.result.now in
    let term_is : get_or ts k [] ≡ term = sym c.term.ensures in
    let size_is : get_or ns k 0 ≡ size =
    get_or-map (size_in counted.words) ts k [] 0 has
    ∙ ap length (sym c.positions.ensures.positions) in
    let left = counts_of (drop (k + 1) ts) (drop (k + 1) ns) in
    let split_terms = drop_more ts k [] has ∙ ap (λ t. t ∷ drop (k + 1) ts) term_is in
    let split_sizes =
    drop_more ns k 0 (omega (arith, len, has)) ∙ ap (λ n. n ∷ drop (k + 1) ns) size_is in
    ap (λ counts. counts_join counts left) c.in_ok-add.ensures.ok
    ∙ counts_join-first before term size (drop (k + 1) ts) (drop (k + 1) ns)
    (subst AreDistinct split_terms
    (AreDistinct-drop k ts c.terms-number-end.ensures.terms.distinct))
    ∙ ap (counts_join before) (sym (ap₂ counts_of split_terms split_sizes))
    ∙ c.loop-number.invariant

pub returns : goal.returns
returns c =
    let counted = c.args.words.now in
    let ts = counted.terms in
    let ns = map (size_in counted.words) ts in
    let k = c.loop-number.number in
    let end : length ts ≤ k = omega (arith, c.terms-number-end.ensures.len) in
    let len = length-map ts (size_in counted.words) in
    let none = ap₂ counts_of (drop_all k ts end) (drop_all k ns (omega (arith, len, end))) in
    on_ok_weaker c.join.result (λ joined.
    joined
    ∙ ap (counts_join c.loop-number.counts) (c.unit.ensures ∙ sym none)
    ∙ c.loop-number.invariant)
    c.join.ensures.value

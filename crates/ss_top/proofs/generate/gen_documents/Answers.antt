use Rattle.std.proofs.Common.{◌≡◌, ◌+◌, ◌*◌, ◌<◌, ◌≤◌, ◌++◌, ◌∷◌, [], map, length, min}
use Rattle.std.proofs.Common.{Some, sym, ap, ap₂, ◌∙◌, arith}
use Rattle.std.proofs.lemmas.List.{map-append}
use Rattle.ss_base.specs.declared.limits.TheConstants as limits
use Rattle.ss_top.specs.Generated.{state_at, generated_document}
use Rattle.ss_top.proofs.GeneratedLemmas.{state_at-add, generated_documents-more}
use Rattle.ss_top.proofs.GeneratedLemmas.{sum_by-generated_documents-more, first_limit-more}
use Rattle.ss_top.proofs.GeneratedLemmas.{generated_limit-met}
use Rattle.ss_top.proofs.generate.gen_documents.Goals as goal

pub returns-in_default-clause-limit : goal.returns-in_default-clause-limit
returns-in_default-clause-limit c =
    let passes = rw c.in_default.is at c.in_ok-document.ensures in
    let before = c.loop-before in
    let words = c.args.words in
    let over : min before.left limits.DOCUMENT_BYTES
    < length (generated_document words (state_at c.args.seed (before.before * words))) =
    omega (
      arith,
      passes,
      c.min-most.ensures,
      ap (λ x. length (generated_document words x)) before.invariant.state,
    ) in
    λ hit e.
    let same : c.limit_with.result ≡ hit = cc in
    generated_limit-met words c.args.seed before.before before.left before.invariant.left
    before.invariant.within c.args.docs c.loop-before-test.true c.if-docs-gt-NAMES.false over
    ∙ ap (λ limit. Some limit) (sym c.limit_with.ensures ∙ same)

pub loop-before-preserved : goal.loop-before-preserved
loop-before-preserved c =
    let made = rw c.in-Some.is at c.in_ok-document.ensures in
    let before = c.loop-before in
    let words = c.args.words in
    let seed = c.args.seed in
    let document = made.0 ∙ ap (generated_document words) before.invariant.state in
    let fits : length (generated_document words (state_at seed (before.before * words)))
    ≤ min before.left limits.DOCUMENT_BYTES =
    omega (arith, ap length document, made.1, c.min-most.ensures) in
    let one_more : before.before * words + words ≡ (before.before + 1) * words = omega arith in
    record {
      documents =
          ap (map (λ d. d.items)) c.in_ok-push.ensures.items
          ∙ map-append (λ d. d.items) before.documents.items (c.in-Some.document ∷ [])
          ∙ ap₂ (λ ds d. ds ++ d ∷ []) before.invariant.documents document
          ∙ sym (generated_documents-more words seed before.before);
      state =
          made.2 ∙ ap (λ x. state_at x words) before.invariant.state
          ∙ state_at-add seed (before.before * words) words ∙ ap (state_at seed) one_more;
      bound = made.3;
      left =
          omega (
            arith,
            before.invariant.left,
            ap length document,
            fits,
            c.len-left.ensures,
            sum_by-generated_documents-more words seed before.before,
          );
      within =
          first_limit-more words seed before.before before.left before.invariant.left
          before.invariant.within fits;
    }

use Rattle.std.proofs.Common.{◌+◌, sym, ap, ◌∙◌}
use Rattle.std.specs.List.{enumerate_from}
use Rattle.index_definitions.specs.Words.{terms_in}
use Rattle.index_definitions.proofs.NumberedLemmas.{takes_one, take-none_left}
use Rattle.doc_words.proofs.NumberedLemmas.{enumerate_from-taken}
use Rattle.doc_words.proofs.words.words_of.Goals as goal

pub loop-term-preserved : goal.loop-term-preserved
loop-term-preserved c =
    let taken = rw c.if-branch.true at c.in_ok-next_into.ensures in
    let one =
    takes_one (terms_in c.args.bytes.now) c.loop-term.position _ _
    (sym c.loop-term.invariant.left ∙ taken) in
    let term = c.in_ok-term.ensures ∙ c.as_str-in-loop-term.ensures.value in
    record {
      left = one.after;
      numbered =
          enumerate_from-taken _ _ _ _ (terms_in c.args.bytes.now) c.loop-term.position _ _
          c.in_ok-push.ensures.items (ap (λ t. (c.loop-term.position + 1, t)) term)
          c.loop-term.invariant.numbered one;
    }

pub returns : goal.returns
returns c =
    let none = rw c.if-branch.false at c.in_ok-next_into.ensures in
    c.loop-term.invariant.numbered
    ∙ ap (enumerate_from 1)
    (take-none_left (terms_in c.args.bytes.now) c.loop-term.position
    (sym c.loop-term.invariant.left ∙ none))

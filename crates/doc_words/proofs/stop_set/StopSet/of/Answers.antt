use Rattle.std.proofs.Common.{◌∙◌}
use Rattle.index_definitions.specs.Words.{terms_in}
use Rattle.index_definitions.proofs.TermsLemmas.{rising_terms-unique}
use Rattle.doc_words.proofs.StopSetLemmas.{has_term-moved, has_term-none_left}
use Rattle.doc_words.proofs.stop_set.StopSet.of.Goals as goal

pub loop-set-preserved : goal.loop-set-preserved
loop-set-preserved c =
    let taken = rw c.if-branch.true at c.in_ok-next_into.ensures in
    record {
      rises = c.in_ok-add.ensures.rises;
      members = λ q.
          has_term-moved q _ _ c.loop-set.set _ _ _ c.as_str-in-loop-set.ensures.value taken
          (c.in_ok-add.ensures.terms q)
          ∙ c.loop-set.invariant.members q;
    }

pub returns-clause-stops : goal.returns-clause-stops
returns-clause-stops c =
    let none = rw c.if-branch.false at c.in_ok-next_into.ensures in
    λ term. has_term-none_left term c.loop-set.set _ none ∙ c.loop-set.invariant.members term

pub returns-clause-terms : goal.returns-clause-terms
returns-clause-terms c =
    rising_terms-unique (terms_in c.args.bytes.now) c.loop-set.set c.loop-set.invariant.rises
    (returns-clause-stops c)

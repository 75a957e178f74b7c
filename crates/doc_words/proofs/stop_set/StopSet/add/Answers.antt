use Rattle.std.proofs.Common.{sym, ap, ◌∙◌}
use Rattle.std.specs.Str.{bytes_eq}
use Rattle.std.specs.Prelude.{◌||◌}
use Rattle.index_definitions.specs.Terms.{has_term}
use Rattle.doc_words.proofs.StopSetLemmas.{IsStrictlySortedBy-texts, has_term-inserted}
use Rattle.doc_words.proofs.StopSetLemmas.{has_term-known, has_term-texts}
use Rattle.doc_words.proofs.stop_set.StopSet.add.Goals as goal

pub invariant_of-self-in_ok-insert : goal.invariant_of-self-in_ok-insert
invariant_of-self-in_ok-insert c = IsStrictlySortedBy-texts _ c.in_ok-insert.ensures.ordered

pub returns-in_ok-insert-clause-terms : goal.returns-in_ok-insert-clause-terms
returns-in_ok-insert-clause-terms c =
    λ q. has_term-inserted c.self.inside.terms c.insert.new.self c.in_ok-from_str.field-0
    c.args.term.now c.in_ok-from_str.ensures.ok c.in_ok-insert.ensures.updates q
    ∙ ap (λ terms. bytes_eq q c.args.term.now || has_term terms q) c.self.view_is

pub returns-in_ok-insert-clause-rises : goal.returns-in_ok-insert-clause-rises
returns-in_ok-insert-clause-rises c = invariant_of-self-in_ok-insert c

pub returns-else-not-contains-clause-terms : goal.returns-else-not-contains-clause-terms
returns-else-not-contains-clause-terms c =
    has_term-known c.args.self.now c.args.term.now
    (ap (λ terms. has_term terms c.args.term.now) (sym c.self.view_is)
    ∙ sym (has_term-texts c.args.term.now c.self.inside.terms) ∙ sym c.contains.ensures
    ∙ c.if-not-contains.false)

use Rattle.std.proofs.Common.{ap, ◌∙◌}
use Rattle.index_definitions.specs.Terms.{has_term}
use Rattle.doc_words.proofs.StopSetLemmas.{has_term-texts}
use Rattle.doc_words.proofs.stop_set.StopSet.contains.Goals as goal

pub returns-clause-member : goal.returns-clause-member
returns-clause-member c =
    c.contains.ensures ∙ has_term-texts c.args.term.now c.self.inside.terms
    ∙ ap (λ terms. has_term terms c.args.term.now) c.self.view_is

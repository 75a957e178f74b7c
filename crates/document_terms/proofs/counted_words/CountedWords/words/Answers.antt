use Rattle.std.proofs.Common.{◌∙◌, ap, length}
use Rattle.document_terms.proofs.CountedLemmas.{length-words_from}
use Rattle.document_terms.proofs.counted_words.CountedWords.words.Goals as goal

pub returns : goal.returns
returns c =
    let inside = c.self.inside in
    c.len.ensures
    ∙ inside.positions.ok.0
    ∙ c.self.invariant.grouped.total
    ∙ length-words_from inside.terms inside.numbers.items c.self.invariant.within
    ∙ ap (λ counted. length counted.words) c.self.view_is

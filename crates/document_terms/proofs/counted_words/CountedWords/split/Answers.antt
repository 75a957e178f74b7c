use Rattle.std.proofs.Common.{◌∙◌, length, subst}
use Rattle.index_definitions.specs.Words.{word_terms}
use Rattle.document_terms.specs.kept.Groups.{AreGrouped}
use Rattle.document_terms.specs.kept.Numbers.{words_from}
use Rattle.index_definitions.proofs.TermsLemmas.{longest_of-same}
use Rattle.document_terms.proofs.counted_words.CountedWords.split.Goals as goal

pub invariant_of-result : goal.invariant_of-result
invariant_of-result c =
    let ts = c.in_ok-terms.terms in
    let ns = c.in_ok-terms.numbers.items in
    let are = c.in_ok-terms.ensures.terms in
    record {
      terms_are = are;
      within = c.in_ok-terms.ensures.within;
      grouped =
          subst (λ xs. AreGrouped (length ts) xs c.in_ok-positions.positions.items
          c.in_ok-positions.ends.items) c.deref.ensures.value
          (subst (λ k. AreGrouped k c.deref.result.now c.in_ok-positions.positions.items
          c.in_ok-positions.ends.items) c.len.ensures c.in_ok-positions.ensures);
      shards_are = c.in_ok-shards.ensures;
      longest_is = c.longest_of-longest.ensures ∙ longest_of-same ts (word_terms (words_from ts ns)) are.members;
    }

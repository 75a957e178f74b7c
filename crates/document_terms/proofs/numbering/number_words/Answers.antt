use Rattle.std.proofs.Common.{◌≡◌, ◌+◌, ◌∷◌, ◌∙◌, ap, sym, subst, arith, drop, length}
use Rattle.std.proofs.lemmas.List.{length_push}
use Rattle.index_definitions.specs.Words.{terms_in}
use Rattle.index_definitions.proofs.NumberedLemmas.{takes_one}
use Rattle.document_terms.proofs.NumberingLemmas.{Numbers, Numbers-more}
use Rattle.document_terms.proofs.numbering.number_words.Goals as goal

pub loop-numbers-preserved : goal.loop-numbers-preserved
loop-numbers-preserved c =
    let before = c.loop-numbers.invariant in
    let all = terms_in c.args.bytes.now in
    let ns = c.loop-numbers.numbers.items in
    let n = c.in_ok-number_of_word.field-0 in
    let term = c.as_str-in-loop-numbers.result.now in
    let taken = rw c.if-branch.true at c.in_ok-next_into.ensures in
    let is = c.as_str-in-loop-numbers.ensures.value in
    let one =
    takes_one all (length ns) term c.next_into.new.self
    (sym before.left ∙ taken ∙ ap (λ t. t ∷ c.next_into.new.self) (sym is)) in
    let pushed = c.in_ok-push.ensures.items in
    let len : length c.push.new.self.items ≡ length ns + 1 = ap length pushed ∙ length_push ns n in
    record {
      numbers =
          subst (Numbers c.args.stop.now c.number_of_word.new.terms all) (sym pushed)
          (Numbers-more c.args.stop.now c.loop-numbers.terms all ns term c.next_into.new.self
          before.numbers one c.number_of_word.new.terms n c.in_ok-number_of_word.ensures);
      left = one.after ∙ ap (λ k. drop k all) (sym len);
      taken = omega (arith, len, one.within);
      total = before.total;
    }

pub returns-clause-terms : goal.returns-clause-terms
returns-clause-terms c = record {
  distinct = rw c.into_texts.ensures.texts c.into_texts.ensures.distinct;
  members = rw (c.into_texts.ensures.texts, c.shrink_to_fit.ensures.items)
      c.loop-numbers.invariant.numbers.members;
}

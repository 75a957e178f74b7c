use Rattle.std.proofs.Common.{◌≡◌, ◌+◌, ◌-◌, ◌<◌, ◌≤◌, ◌∷◌, [], ◌++◌, ◌∙◌, arith, ap, sym, subst}
use Rattle.std.proofs.Common.{take, drop, length, Err}
use Rattle.std.proofs.lemmas.List.{take_all}
use Rattle.std.proofs.lemmas.Grind.{common_steps}
use Rattle.index_definitions.specs.PostingLists.{last_document}
use Rattle.postings.specs.Spelling.{SpellsDocument, AreBadAt}
use Rattle.postings.specs.Stuck.{AreStuck, IsDocumentAbove}
use Rattle.postings.proofs.PostingListsLemmas.{last_document-push}
use Rattle.postings.proofs.ReadingLemmas.{HaveReadList, HaveReadList-more, HaveReadList-whole}
use Rattle.postings.proofs.ReadingLemmas.{list_bad, behind-is, bad-behind, take_two}
use Rattle.postings.proofs.decoding.decode.Goals as goal

pub loop-at-preserved : goal.loop-at-preserved
loop-at-preserved c =
    let bytes = c.args.bytes.now in
    let at = c.loop-at.at in
    let len = c.in-Ok.len in
    let tail = drop at bytes in
    let list = c.loop-at.list in
    let document = c.in-Ok.document in
    let ns = c.read_document.new.positions.items in
    let long : length tail ≡ length bytes - at = grind (arith, common_steps) in
    let within : len ≤ length tail =
    subst (λ bs. len ≤ length bs) (behind-is at bytes) c.in-Ok.ensures.within in
    let spelt : SpellsDocument c.loop-at.before (take len tail) (document, ns) =
    subst (λ bs. SpellsDocument c.loop-at.before (take len bs) (document, ns)) (behind-is at bytes)
    c.in-Ok.ensures.spelt in
    let new : c.append.new.self ≡ list ++ (document, ns) ∷ [] =
    c.in_ok-append-in-Ok.ensures.ok ∙ ap (λ ms. list ++ (document, ms) ∷ []) c.deref.ensures.value in
    let more = HaveReadList-more (take at bytes) list c.loop-at.before (take len tail)
    (document, ns) c.loop-at.invariant.read spelt in
    record {
      within = omega (arith, within, long, c.loop-at-test.true);
      read = subst (λ es. HaveReadList es c.append.new.self document)
          (sym (take_two at len bytes c.loop-at.invariant.within))
          (subst (λ done. HaveReadList (take at bytes ++ take len tail) done document)
          (sym new) more);
      last = ap last_document new ∙ last_document-push list document ns;
    }

pub returns-in-Err-BadPostings-clause-bad : goal.returns-in-Err-BadPostings-clause-bad
returns-in-Err-BadPostings-clause-bad c = λ place same.
    let bytes = c.args.bytes.now in
    let at = c.loop-at.at in
    let more = c.in-Err-BadPostings.more in
    let is : at + more ≡ place = cc same in
    let long : length (drop at bytes) ≡ length bytes - at = grind (arith, common_steps) in
    let some : 0 < length (drop at bytes) = omega (arith, long, c.loop-at-test.true) in
    let stuck = subst (λ bs. AreStuck (IsDocumentAbove c.loop-at.before) bs more)
    (behind-is at bytes) (c.in-Err-BadPostings.ensures.stuck more (ap Err c.in-Err-BadPostings.field-0-is)) in
    subst (AreBadAt bytes) is
    (bad-behind at bytes more c.loop-at.invariant.within
    (list_bad (take at bytes) c.loop-at.list c.loop-at.before (drop at bytes) more
    c.loop-at.invariant.read some stuck))

pub returns-clause-ok : goal.returns-clause-ok
returns-clause-ok c =
    let bytes = c.args.bytes.now in
    let at = c.loop-at.at in
    let end : length bytes ≤ at = omega (arith, c.loop-at-test.false) in
    HaveReadList-whole bytes c.loop-at.list c.loop-at.before
    (subst (λ es. HaveReadList es c.loop-at.list c.loop-at.before) (take_all at bytes end)
    c.loop-at.invariant.read)

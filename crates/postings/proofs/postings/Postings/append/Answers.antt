use Rattle.std.proofs.Common.{ℕ, ◌≡◌, ◌<◌, ◌≤◌, ◌+◌, ◌^◌, ◌∙◌, List, ◌++◌, [], ◌∷◌}
use Rattle.std.proofs.Common.{length, arith, ap}
use Rattle.std.proofs.lemmas.List.{length-append}
use Rattle.index_definitions.specs.PostingLists.{last_document}
use Rattle.postings.specs.Numbers.{lists_of}
use Rattle.postings.proofs.NumbersLemmas.{HoldPostings-append, lists_of-append}
use Rattle.postings.proofs.PostingListsLemmas.{length-RisesAbove-lt, length-ListsPostings-le}
use Rattle.postings.proofs.postings.Postings.append.Goals as goal

-- positions rise, and each fits
pub overflow_cast-positions : goal.overflow_cast-positions
overflow_cast-positions c =
    let fits = c.type_inv.positions in
    let fewer = length-RisesAbove-lt (2 ^ 32) 0 c.args.positions.now (omega arith)
    c.requires.positions.rise (λ k. omega (arith, fits k)) in
    omega (arith, fewer)

-- the documents so far are no more than the last one's number, which is below this one's
pub overflow_add-self : goal.overflow_add-self
overflow_add-self c =
    let es = lists_of c.self.inside.numbers.items in
    let rises : last_document es < c.args.doc = rw c.self.view_is c.requires.rises in
    let fewer : length es ≤ last_document es =
    length-ListsPostings-le es c.self.invariant.0.postings in
    omega (arith, fewer, rises, c.self.invariant.1)

pub invariant_of-self-2 : goal.invariant_of-self-2
invariant_of-self-2 c =
    let ns = c.self.inside.numbers.items in
    let e : ℕ × List ℕ = (c.args.doc, c.args.positions.now) in
    let rises : last_document (lists_of ns) < c.args.doc = rw c.self.view_is c.requires.rises in
    let holds = c.self.invariant.0 in
    let read = lists_of-append ns e holds in
    let counted : length (lists_of ns ++ e ∷ []) ≡ length (lists_of ns) + 1 =
    length-append (lists_of ns) (e ∷ []) in
    rw c.in_ok-push_document.ensures.ok (
      HoldPostings-append ns c.args.doc c.args.positions.now holds rises c.requires.positions,
      rw read (cc (counted, c.self.invariant.1)),
    )

pub returns-clause-ok : goal.returns-clause-ok
returns-clause-ok c =
    let ns = c.self.inside.numbers.items in
    let e : ℕ × List ℕ = (c.args.doc, c.args.positions.now) in
    ap lists_of c.in_ok-push_document.ensures.ok
    ∙ lists_of-append ns e c.self.invariant.0
    ∙ ap (λ es. es ++ e ∷ []) c.self.view_is

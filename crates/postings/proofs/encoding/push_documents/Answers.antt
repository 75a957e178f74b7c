use Rattle.std.proofs.Common.{ℕ, ◌<◌, ◌^◌, [], ◌++◌, List, refl, sym, ap, subst}
use Rattle.std.proofs.Common.{append_assoc, rules}
use Rattle.index_definitions.specs.PostingLists.{ListsPostingsAbove}
use Rattle.postings.specs.Numbers.{lists_of}
use Rattle.postings.specs.Spelling.{SpellsDocuments, Spells}
use Rattle.postings.proofs.AppendingLemmas.{behind_more, at_end}
use Rattle.postings.proofs.encoding.push_documents.Goals as goal

pub loop-document-preserved : goal.loop-document-preserved
loop-document-preserved c =
    let old = c.args.bytes.now.items in
    let before = c.loop-document.before in
    let document = c.in-Some.document in
    let first = c.in-Some.ensures.first in
    let above = subst (ListsPostingsAbove before) first c.loop-document.invariant.rises in
    let number = c.in_ok-push_number.ensures in
    let positions = c.in_ok-push_positions.ensures in
    let Whole = λ (more : List ℕ). Spells more (lists_of c.args.numbers.now) in
    let small : document < 2 ^ 32 = search rules in
    record {
      holds = c.in-Some.ensures.rest;
      rises = above.2;
      goes_on = λ tail spells.
          let word = number.0 ++ (positions.0 ++ tail) in
          behind_more Whole old c.push_number.new.bytes.items positions.0
          c.push_positions.new.bytes.items tail positions.2
          (behind_more Whole old c.loop-document.bytes.items number.0
          c.push_number.new.bytes.items (positions.0 ++ tail) number.2
          (c.loop-document.invariant.goes_on word
          (subst (SpellsDocuments before word) (sym first) (
            number.0 ++ positions.0,
            tail,
            sym (append_assoc number.0 positions.0 tail),
            (number.0, positions.0, refl, (above.0, small, number.1), above.1.some, positions.1),
            spells,
          ))));
    }

pub returns : goal.returns
returns c =
    let old = c.args.bytes.now.items in
    let Whole = λ (more : List ℕ). Spells more (lists_of c.args.numbers.now) in
    at_end Whole old c.loop-document.bytes.items
    (c.loop-document.invariant.goes_on []
    (subst (SpellsDocuments c.loop-document.before [])
    (sym (ap lists_of c.in_default.ensures.none)) refl))

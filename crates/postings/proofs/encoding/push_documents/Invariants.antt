use Rattle.std.proofs.Common.{ℕ, ◌++◌, List, length}
use Rattle.index_definitions.specs.PostingLists.{ListsPostingsAbove}
use Rattle.postings.specs.Appending.{Appends}
use Rattle.postings.specs.Numbers.{lists_of, HoldPostings}
use Rattle.postings.specs.Spelling.{SpellsDocuments, Spells}
use Rattle.postings.proofs.encoding.push_documents.Given as goal

-- whatever spells the documents that are left completes them
abbrev pub invariant-loop-document : goal.invariant-loop-document
invariant-loop-document l =
    record {
      holds : HoldPostings l.rest;
      rises : ListsPostingsAbove l.before (lists_of l.rest);
      goes_on : (tail : List ℕ) → SpellsDocuments l.before tail (lists_of l.rest)
          → Appends (λ more. Spells more (lists_of l.fn.numbers)) l.fn.bytes.items
          (l.bytes.items ++ tail);
    }

abbrev pub decreases-loop-document : goal.decreases-loop-document
decreases-loop-document l = length (lists_of l.rest)

use Rattle.std.proofs.Common.{◌≡◌, ◌≤◌, ◌-◌, length, take}
use Rattle.index_definitions.specs.PostingLists.{last_document}
use Rattle.postings.proofs.ReadingLemmas.{HaveReadList}
use Rattle.postings.proofs.decoding.decode.Given as goal

-- the list so far is that of the bytes so far
abbrev pub invariant-loop-at : goal.invariant-loop-at
invariant-loop-at l =
    record {
      within : l.at ≤ length l.bytes;
      read : HaveReadList (take l.at l.bytes) l.list l.before;
      last : last_document l.list ≡ l.before;
    }

abbrev pub decreases-loop-at : goal.decreases-loop-at
decreases-loop-at l = length l.bytes - l.at

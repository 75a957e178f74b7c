use Rattle.std.proofs.Common.{◌≤◌, ◌-◌, length, take}
use Rattle.postings.proofs.ReadingLemmas.{HaveRead}
use Rattle.postings.proofs.decoding.read_positions.Given as goal

-- the positions so far are those of the bytes so far
abbrev pub invariant-loop-at : goal.invariant-loop-at
invariant-loop-at l =
    record {
      within : l.at ≤ length l.bytes;
      read : HaveRead (take l.at l.bytes) l.positions.items l.last;
    }

abbrev pub decreases-loop-at : goal.decreases-loop-at
decreases-loop-at l = length l.bytes - l.at

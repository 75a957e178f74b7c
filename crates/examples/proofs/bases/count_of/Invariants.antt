use Rattle.std.proofs.Common.{◌≡◌, ◌≤◌, ◌==◌, count_by, take}
use Rattle.examples.proofs.bases.count_of.Given as goal

-- the bytes so far are counted
abbrev pub invariant-loop-b : goal.invariant-loop-b
invariant-loop-b l = record {
  within : l.count ≤ l.b-index;
  counted : l.count ≡ count_by (λ b. b == l.byte) (take l.b-index l.bytes);
}

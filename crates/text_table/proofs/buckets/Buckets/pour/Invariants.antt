use Rattle.std.proofs.Common.{◌≡◌, length}
use Rattle.std.specs.List.{All, AllWithin}
use Rattle.text_table.specs.Buckets.{AreHeldBy, IsHeldBy}
use Rattle.text_table.proofs.buckets.Buckets.pour.Given as goal

-- what stands in the buckets that were passed is held
abbrev pub invariant-loop-bucket : goal.invariant-loop-bucket
invariant-loop-bucket l = record {
  put : AllWithin (All (IsHeldBy l.others)) l.bucket-items 0 l.bucket-index;
  others : AreHeldBy l.fn.others l.others;
  len : length l.others ≡ length l.fn.others;
}

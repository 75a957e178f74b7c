use Rattle.std.proofs.Common.{◌≡◌, length}
use Rattle.std.specs.List.{AllWithin}
use Rattle.text_table.specs.Buckets.{AreHeldBy, IsHeldBy}
use Rattle.text_table.proofs.buckets.Buckets.put_all.Given as goal

-- what was passed is held
abbrev pub invariant-loop-slot : goal.invariant-loop-slot
invariant-loop-slot l = record {
  put : AllWithin (IsHeldBy l.self) l.bucket 0 l.slot-index;
  others : AreHeldBy l.fn.self l.self;
  len : length l.self ≡ length l.fn.self;
}

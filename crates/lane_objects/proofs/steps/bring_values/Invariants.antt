use Rattle.std.proofs.Common.{◌≡◌, ℕ, length}
use Rattle.std.specs.Prelude.{slice_get}
use Rattle.std.specs.Option.{option_map}
use Rattle.delegates.specs.Stores.{stored}
use Rattle.lane_objects.specs.Objects.{come_back, without_values}
use Rattle.lane_objects.proofs.steps.bring_values.Given as goal

-- each object's place is as it was, once the rest has come home
abbrev pub invariant-loop-o : goal.invariant-loop-o
invariant-loop-o g l = record {
  places : (n : ℕ) → option_map (come_back (stored l.store) n) (slice_get l.objects.items n)
      ≡ option_map (come_back (stored l.fn.store) n) (slice_get l.fn.objects.items n);
  count : length l.objects.items ≡ length l.fn.objects.items;
  left : without_values (stored l.store) ≡ without_values (stored l.fn.store);
}

abbrev pub decreases-loop-o : goal.decreases-loop-o
decreases-loop-o g l = length (stored l.store).values

use Rattle.std.proofs.Common.{◌≡◌, ◌++◌, Some, map}
use Rattle.lane_objects.specs.Objects.{value_at_home}
use Rattle.lane_store.proofs.calls.into_values.Given as goal

abbrev pub invariant-loop-object : goal.invariant-loop-object
invariant-loop-object g l =
    (map Some l.values.items ≡ map value_at_home l.yielded)
    × (l.fn.objects.items ≡ l.yielded ++ l.object-iterator.rest.items)

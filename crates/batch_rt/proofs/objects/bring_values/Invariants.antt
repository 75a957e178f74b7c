use Rattle.std.proofs.Common.{◌≡◌}
use Rattle.batch_rt.specs.Objects.{brought}
use Rattle.batch_rt.proofs.objects.bring_values.Given as goal

abbrev pub invariant-loop-o : goal.invariant-loop-o
invariant-loop-o g l =
    brought l.objects.items l.o-iterator.rest.items l.values.rest.items
    ≡ brought l.fn.objects.items l.fn.numbers.items l.fn.values.items

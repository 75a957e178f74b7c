use Rattle.std.proofs.Common.{sym, ap, ◌∙◌, length}
use Rattle.std.specs.Prelude.{slice_get}
use Rattle.std.proofs.lemmas.List.{length-set}
use Rattle.delegates.specs.Stores.{stored}
use Rattle.lane_objects.specs.declared.object.Object.TheVariants.{Here}
use Rattle.lane_objects.specs.Objects.{without_values}
use Rattle.lane_objects.proofs.HomeLemmas.{came_home, none_left, has_none}
use Rattle.lane_objects.proofs.steps.bring_values.Goals as goal

pub loop-o-preserved : goal.loop-o-preserved
loop-o-preserved g c =
    let was = c.loop-o.invariant in
    let before = stored c.loop-o.store in
    let after = stored c.pop_value.new.self in
    let popped = c.in-Some.ensures in
    record {
      places = λ n. came_home before after c.in-Some.o.0 c.in-Some.value popped.some popped.least
          c.loop-o.objects.items c.put_home.new.objects.items c.put_home.ensures n ∙ was.places n;
      count = ap length c.put_home.ensures
          ∙ length-set c.loop-o.objects.items c.in-Some.o.0 (Here c.in-Some.value) ∙ was.count;
      left = sym (ap without_values popped.some) ∙ was.left;
    }

pub returns : goal.returns
returns g c =
    let was = c.loop-o.invariant in
    let before = stored c.loop-o.store in
    let none = c.in_default.ensures.none in
    record {
      home = λ n. sym (none_left before none.0 n (slice_get c.loop-o.objects.items n))
          ∙ was.places n;
      count = was.count;
      left = none.1 ∙ has_none before none.0 ∙ was.left;
    }

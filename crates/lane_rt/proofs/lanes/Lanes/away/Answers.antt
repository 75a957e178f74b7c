use Rattle.std.proofs.Common.{◌∙◌, ◌&&◌, map, sym, ap}
use Rattle.std.specs.Prelude.{is_some, slice_get}
use Rattle.execution_definitions.specs.Sets.{lane_of_set}
use Rattle.lane_objects.specs.Objects.{value_at_home, found_at}
use Rattle.lane_store.specs.LaneStores.{has_worker_at}
use Rattle.lane_rt.specs.Moves.{is_out, works, works_for}
use Rattle.lane_ends.specs.Workers.{home_given}
use Rattle.lane_store.specs.Running.{lanes_of}
use Rattle.lane_rt.proofs.RunningLemmas.{and_false, out_is, works_is}
use Rattle.lane_rt.proofs.lanes.Lanes.away.Goals as goal

pub returns-in-None : goal.returns-in-None
returns-in-None g c =
    let store = c.self.inside.store in
    let lanes = lanes_of g.C.Class.meaning home_given store.logs.items store.ends.items in
    let out = is_out (slice_get (map value_at_home store.objects.items) c.args.o.0) in
    rw (← c.self.view_is)
    (sym (ap (λ set. out && works_for lanes c.self.inside.delegates set)
    (sym c.delegated_to.ensures.marked ∙ c.in-None.is) ∙ and_false out))

pub returns-in-Some : goal.returns-in-Some
returns-in-Some g c =
    let store = c.self.inside.store in
    let ends = store.ends.items in
    let m = g.C.Class.meaning in
    let n = c.self.inside.delegates in
    let lanes = lanes_of m home_given store.logs.items ends in
    let lane = lane_of_set c.in-Some.set.0 n in
    let out = is_out (slice_get (map value_at_home store.objects.items) c.args.o.0) in
    let found = is_some (found_at store.objects.items c.args.o.0) in
    rw (← c.self.view_is)
    (c.is_away.ensures
    ∙ sym (ap (λ set. out && works_for lanes n set) (sym c.delegated_to.ensures.marked ∙ c.in-Some.is)
    ∙ ap (λ b. b && works (slice_get lanes lane)) (out_is store.objects.items c.args.o.0)
    ∙ ap (λ b. found && b) (works_is m store.logs.items ends lane)
    ∙ ap (λ l. found && has_worker_at ends l) (sym (c.from-there.ensures ∙ c.lane_of.ensures))))

use Rattle.std.proofs.Common.{refl, length, sym, ap, ◌∙◌, subst, inl, Some}
use Rattle.std.specs.Option.{option_map}
use Rattle.std.specs.Arc.{arc_value}
use Rattle.std.specs.Vec.{with_item}
use Rattle.std.proofs.lemmas.Option.{slice_get_read}
use Rattle.std.proofs.lemmas.Result.{on_ok_weaker}
use Rattle.set_queue.specs.declared.message.Message.TheVariants as message
use Rattle.delegates.specs.Stores.{taken, entry_of}
use Rattle.lane_ends.specs.LaneEnds.{comes_to}
use Rattle.lane_objects.specs.Objects.{found_in}
use Rattle.lane_objects.specs.Outcomes.{value_after}
use Rattle.lane_store.specs.LaneStores.{stores_of}
use Rattle.lane_objects.proofs.OutcomeLemmas.{laws_from, not_in_lane, value_home}
use Rattle.lane_objects.proofs.RunLemmas.{HasRun, has_carried}
use Rattle.lane_core.proofs.StepLemmas.{same_as_itself}
use Rattle.lane_store.proofs.ViewLemmas.{store_here, away_value}
use Rattle.lane_store.proofs.ComeLemmas.{carry_enters}
use Rattle.lane_store.proofs.StoreLemmas.{comes_to_whole, sends}
use Rattle.lane_store.proofs.sends.carry.Goals as goal

pub post-requires : goal.post-requires
post-requires g c =
    let m = g.C.LocalClass.local_meaning in
    let home_of = g.W.LaneWorker.home_of in
    let store = c.args.store.now in
    let ends = store.ends.items in
    let old = c.index_mut-2.result.now in
    let here = slice_get_read ends (length ends) c.args.lane old refl c.requires.lane
    c.index_mut-2.ensures.value in
    record {
      can = c.requires.can;
      means = c.requires.means;
      whole = c.requires.whole.lanes c.args.lane old here;
      finds = not_in_lane store.objects.items (stores_of m home_of ends) c.args.lane
          (comes_to m home_of old) c.args.run.object.0 _ c.requires.whole.apart
          (store_here m home_of ends c.args.lane old here) c.requires.home refl;
    }

pub returns : goal.returns
returns g c =
    let m = g.C.LocalClass.local_meaning in
    let home_of = g.W.LaneWorker.home_of in
    let store = c.args.store.now in
    let ends = store.ends.items in
    let objects = store.objects.items in
    let stores = stores_of m home_of ends in
    let run = c.args.run in
    let old = c.index_mut-2.result.now in
    let here = slice_get_read ends (length ends) c.args.lane old refl c.requires.lane
    c.index_mut-2.ensures.value in
    let object = c.index_mut.result.now in
    let at = slice_get_read objects (length objects) run.object.0 object refl c.requires.known
    c.index_mut.ensures.value in
    let home = sym (ap found_in at) ∙ c.requires.home in
    let value = c.in_ok-value.value in
    let read = option_map arc_value c.args.reading in
    let x = message.Carry run.call run.epoch run.set run.object value c.args.op c.args.reading in
    let was = comes_to m home_of old in
    let has : HasRun m was (taken m was x) run (m.step (value_after stores object) c.args.op read) =
    subst (λ v. HasRun m was (taken m was x) run (m.step v c.args.op read))
    (sym (value_home stores object value c.in_ok-value.ensures.value))
    (has_carried m was x (entry_of run c.args.op c.args.reading) value
    (comes_to_whole m home_of old (c.requires.whole.lanes c.args.lane old here)) refl) in
    on_ok_weaker c.post.result
    (λ takes. sends m home_of store _ c.args.lane old c.post.new.end x run object
    c.send_object.new.object c.args.op read
    (laws_from m _ _ g.met.C.LocalClass.local_same_unit g.met.C.LocalClass.local_same_join
    g.met.C.LocalRed.LocalReducible.local_laws)
    c.requires.whole here c.requires.logged at c.in_ok-value.ensures.sent (inl home) takes has
    refl refl refl refl
    (carry_enters m home_of store
    (record store {
      objects = with_item store.objects run.object.0 c.send_object.new.object;
      ends = with_item store.ends c.args.lane c.post.new.end;
    }) c.args.lane old c.post.new.end x run c.args.op read
    c.requires.whole here takes refl refl refl refl object c.send_object.new.object value at
    c.in_ok-value.ensures.value (away_value c.send_object.new.object _ c.in_ok-value.ensures.sent)
    refl (rw (same_as_itself run.object.0) refl)))
    c.post.ensures.takes

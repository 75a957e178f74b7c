use Rattle.std.proofs.Common.{refl, length, sym, ap, ◌∙◌, inr, Some}
use Rattle.std.specs.Option.{option_map}
use Rattle.std.specs.Arc.{arc_value}
use Rattle.std.specs.Vec.{with_item}
use Rattle.std.proofs.lemmas.Option.{slice_get_read}
use Rattle.std.proofs.lemmas.Result.{on_ok_weaker}
use Rattle.set_queue.specs.declared.message.Message.TheVariants as message
use Rattle.delegates.specs.Stores.{entry_of}
use Rattle.lane_ends.specs.LaneEnds.{comes_to}
use Rattle.lane_objects.specs.Outcomes.{value_after}
use Rattle.lane_store.specs.LaneStores.{has_worker_in, stores_of}
use Rattle.lane_objects.proofs.ListLemmas.{set_same}
use Rattle.lane_objects.proofs.OutcomeLemmas.{laws_from, found_object, is_in_lane, value_there}
use Rattle.lane_objects.proofs.RunLemmas.{has_followed}
use Rattle.lane_store.proofs.ViewLemmas.{store_here}
use Rattle.lane_store.proofs.ComeLemmas.{follow_enters}
use Rattle.lane_store.proofs.StoreLemmas.{comes_to_whole, sends}
use Rattle.lane_store.proofs.sends.follow.Goals as goal

pub post-requires : goal.post-requires
post-requires g c =
    let m = g.C.LocalClass.local_meaning in
    let home_of = g.W.LaneWorker.home_of in
    let store = c.args.store.now in
    let ends = store.ends.items in
    let old = c.index_mut.result.now in
    let here = slice_get_read ends (length ends) c.args.lane old refl c.requires.lane
    c.index_mut.ensures.value in
    record {
      can = c.requires.can;
      means = c.requires.means;
      whole = c.requires.whole.lanes c.args.lane old here;
      finds = is_in_lane store.objects.items (stores_of m home_of ends) c.args.lane
          (comes_to m home_of old) c.args.run.object.0 c.args.run.object.0
          c.requires.whole.apart (store_here m home_of ends c.args.lane old here)
          c.requires.there;
    }

pub returns-clause-succeeds : goal.returns-clause-succeeds
returns-clause-succeeds g c =
    let ends = c.args.store.now.ends.items in
    let here = slice_get_read ends (length ends) c.args.lane c.index_mut.result.now refl
    c.requires.lane c.index_mut.ensures.value in
    λ works. c.post.ensures.succeeds (sym (ap has_worker_in here) ∙ works)

pub returns-clause-sends : goal.returns-clause-sends
returns-clause-sends g c =
    let m = g.C.LocalClass.local_meaning in
    let home_of = g.W.LaneWorker.home_of in
    let store = c.args.store.now in
    let ends = store.ends.items in
    let objects = store.objects.items in
    let stores = stores_of m home_of ends in
    let run = c.args.run in
    let old = c.index_mut.result.now in
    let here = slice_get_read ends (length ends) c.args.lane old refl c.requires.lane
    c.index_mut.ensures.value in
    let found = found_object objects run.object.0 _ _ refl c.requires.there in
    let read = option_map arc_value c.args.reading in
    let x = message.Run run.call run.epoch run.set run.object c.args.op c.args.reading in
    let was = comes_to m home_of old in
    on_ok_weaker c.post.result
    (λ takes. sends m home_of store _ c.args.lane old c.post.new.end x run found.0 found.0
    c.args.op read
    (laws_from m _ _ g.met.C.LocalClass.local_same_unit g.met.C.LocalClass.local_same_join
    g.met.C.LocalRed.LocalReducible.local_laws)
    c.requires.whole here c.requires.logged found.1 found.2 (inr found.2) takes
    (has_followed m was x (entry_of run c.args.op c.args.reading) (value_after stores found.0)
    (comes_to_whole m home_of old (c.requires.whole.lanes c.args.lane old here)) refl
    (value_there objects stores c.args.lane was run.object.0 found.0 _ c.requires.whole.apart
    (store_here m home_of ends c.args.lane old here) found.1 found.2 refl))
    (sym (set_same objects run.object.0 found.0 found.1)) refl refl refl
    (follow_enters m home_of store
    (record store { ends = with_item store.ends c.args.lane c.post.new.end }) c.args.lane old c.post.new.end x run c.args.op read
    c.requires.whole here takes refl refl refl refl refl))
    c.post.ensures.takes

use Rattle.std.proofs.Common.{◌≡◌, refl, length, sym, ap, ◌∙◌}
use Rattle.std.proofs.lemmas.List.{length-set}
use Rattle.std.proofs.lemmas.Option.{slice_get_read, same_Some}
use Rattle.delegation.proofs.runs.FrontLemmas.{fronts_same}
use Rattle.batch_rt.specs.Stores.{found_in}
use Rattle.batch_rt.proofs.ListLemmas.{get-set}
use Rattle.batch_rt.proofs.StoreLemmas.{sent_same}
use Rattle.batch_rt.proofs.TotalLemmas.{total_same}
use Rattle.batch_rt.proofs.MoveLemmas.{sends}
use Rattle.batch_rt.proofs.steps.send_to.Goals as goal

pub returns-clause-continues : goal.returns-clause-continues
returns-clause-continues g c =
    let m = g.C.LocalClass.local_meaning in
    let objects = c.args.store.now.objects.items in
    let lanes = c.args.store.now.lanes.items in
    let old = c.index_mut-2.result.now in
    let new = c.take_in.new.lane in
    let object = c.index_mut.result.now in
    let here = slice_get_read lanes (length lanes) c.args.lane old refl c.requires.lane
    c.index_mut-2.ensures.value in
    let at = slice_get_read objects (length objects) c.args.o.0 object refl c.requires.known
    c.index_mut.ensures.value in
    let home = sym (ap found_in at) ∙ c.requires.home in
    let place_is : c.len-place.result ≡ length old.values.items =
    c.len-place.ensures ∙ c.index.result.now.values.ok.0
    ∙ ap (λ lane. length lane.values.items) (same_Some _ _ (sym (slice_get_read lanes
    (length lanes) c.args.lane c.index.result.now refl c.requires.lane c.index.ensures) ∙ here)) in
    let taken = c.in_ok-take_in.ensures in
    let sent = c.send_object.new.object in
    let value = c.in_ok-value.value in
    let moved = sends m objects lanes c.args.lane old new c.requires.whole here c.args.o object sent
    value c.len-place.result at c.in_ok-value.ensures.value home c.in_ok-value.ensures.sent place_is
    taken.numbers taken.values taken.pending taken.part in
    record {
      state = rw (
        moved.0,
        total_same m c.args.store.now.total lanes c.args.lane old new here moved.1,
      ) refl;
      sent = sent_same c.args.store.now.logs.items lanes c.args.lane old new here
          (rw (taken.ran, taken.pending) refl);
      whole = moved.2;
      objects = length-set objects c.args.o.0 sent;
      lanes = length-set lanes c.args.lane new;
      logs = fronts_same c.args.store.now.logs.items;
    }

pub returns-clause-place : goal.returns-clause-place
returns-clause-place g c =
    let objects = c.args.store.now.objects.items in
    let object = c.index_mut.result.now in
    let at = slice_get_read objects (length objects) c.args.o.0 object refl c.requires.known
    c.index_mut.ensures.value in
    ap found_in (get-set objects c.args.o.0 object c.send_object.new.object at)
    ∙ c.in_ok-value.ensures.sent

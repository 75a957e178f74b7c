use Rattle.std.proofs.Common.{refl, length}
use Rattle.std.proofs.lemmas.List.{length-set}
use Rattle.std.proofs.lemmas.Option.{slice_get_read}
use Rattle.batch_rt.proofs.StoreLemmas.{found_object, sent_put}
use Rattle.batch_rt.proofs.MoveLemmas.{state_put, runs_put, whole_put, laws_from}
use Rattle.batch_rt.proofs.steps.push_entry.Goals as goal

pub returns : goal.returns
returns g c =
    let m = g.C.LocalClass.local_meaning in
    let store = c.args.store.now in
    let objects = store.objects.items in
    let lanes = store.lanes.items in
    let entry = c.args.entry in
    let old = c.index_mut.result.now in
    let here = slice_get_read lanes (length lanes) c.args.lane old refl c.requires.lane
    c.index_mut.ensures.value in
    let found = found_object objects entry.run.object.0 _ _ refl c.requires.there in
    record {
      state = state_put m objects lanes c.args.lane old _ c.requires.whole here
          entry.run.object.0 found.0 entry found.1 found.2 refl refl c.in_ok-push.ensures.items
          refl refl store.total
          (laws_from m _ _ g.met.C.LocalClass.local_same_unit g.met.C.LocalClass.local_same_join
          g.met.C.LocalRed.LocalReducible.local_laws);
      sent = sent_put store.logs.items lanes c.args.lane old
          (record old { pending = c.push.new.self }) entry.run c.requires.logged here
          (runs_put m objects lanes c.args.lane old (record old { pending = c.push.new.self })
          c.requires.whole here entry.run.object.0 found.0 entry found.1 found.2 refl refl
          c.in_ok-push.ensures.items refl refl);
      whole = whole_put m objects lanes c.args.lane old _ c.requires.whole here
          entry.run.object.0 found.0 entry found.1 found.2 refl refl c.in_ok-push.ensures.items
          refl refl;
      objects = refl;
      lanes = length-set lanes c.args.lane _;
      logs = refl;
    }

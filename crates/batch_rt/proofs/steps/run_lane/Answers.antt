use Rattle.std.proofs.Common.{refl, length, sym, ap, ◌∙◌, subst, ◌≡◌, []}
use Rattle.std.specs.Prelude.{slice_get, slice_set}
use Rattle.std.proofs.lemmas.List.{set-set}
use Rattle.std.proofs.lemmas.Option.{slice_get_read, same_Some}
use Rattle.delegation.proofs.runs.FrontLemmas.{fronts_same}
use Rattle.batch_rt.specs.Lanes.{HasWorked}
use Rattle.batch_rt.proofs.ListLemmas.{get-set}
use Rattle.batch_rt.proofs.SameLemmas.{AreSame, all_same_set, same_run, same_state, same_sent, same_whole, same_count}
use Rattle.batch_rt.proofs.steps.run_lane.Goals as goal

pub returns : goal.returns
returns g c =
    let m = g.C.LocalClass.local_meaning in
    let store = c.args.store.now in
    let lanes = store.lanes.items in
    let old = c.index_mut.result.now in
    let after = c.run_entries-after.result in
    let here = slice_get_read lanes (length lanes) c.args.lane old refl c.requires.known
    c.index_mut.ensures.value in
    let run : HasWorked m old after =
    subst (λ before. HasWorked m before after) c.replace-before.ensures.value
    (c.run_entries-after.ensures c.if-after.false) in
    let same : AreSame m lanes (slice_set (slice_set lanes c.args.lane c.replace-before.new.dest)
    c.args.lane after) =
    rw (set-set lanes c.args.lane c.replace-before.new.dest after)
    (all_same_set m lanes c.args.lane old after c.requires.whole.fit here
    (same_run m old after (c.requires.whole.fit c.args.lane old here) run)) in
    record {
      continues = record {
        state = same_state m store.objects.items store.total lanes _ same;
        sent = same_sent m store.logs.items lanes _ same;
        whole = same_whole m store.objects.items lanes _ c.requires.whole same;
        objects = refl;
        lanes = same_count m lanes _ same;
        logs = fronts_same store.logs.items;
      };
      done = λ lane at.
          subst (λ lane. lane.pending.items ≡ [])
          (same_Some _ _ (sym (ap (λ lanes. slice_get lanes c.args.lane)
          (set-set lanes c.args.lane c.replace-before.new.dest after)
          ∙ get-set lanes c.args.lane old after here) ∙ at)) run.done;
      logs = refl;
      objects = refl;
    }

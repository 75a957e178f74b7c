use Rattle.std.proofs.Common.{refl, sym, ap, ◌∙◌, subst}
use Rattle.std.specs.Prelude.{not}
use Rattle.std.specs.List.{list_all}
use Rattle.jobs.specs.Jobs.{EachGives}
use Rattle.delegation.proofs.runs.FrontLemmas.{fronts_same}
use Rattle.batch_rt.specs.Lanes.{Works}
use Rattle.batch_rt.proofs.SameLemmas.{all_same_run, whole_each, same_state, same_sent, same_whole, same_count}
use Rattle.batch_rt.proofs.steps.run_lanes.Goals as goal

pub returns : goal.returns
returns g c =
    let m = g.C.LocalClass.local_meaning in
    let store = c.args.store.now in
    let lanes = store.lanes.items in
    let news = c.in_ok-store.field-0.items in
    let gives : EachGives (Works m) lanes news =
    subst (λ items. EachGives (Works m) items news) (ap (λ v. v.items) c.replace-lanes.ensures.value)
    (c.requires.means c.replace-lanes.result _ c.in_ok-store.ensures) in
    let whole = whole_each m news (sym (ap (list_all (λ lane. not lane.is_broken))
    c.deref.ensures.value) ∙ sym c.are_whole.ensures ∙ c.if-not-are_whole.false) in
    let ran = all_same_run m lanes news c.requires.whole.fit gives whole in
    record {
      continues = record {
        state = same_state m store.objects.items store.total lanes news ran.0;
        sent = same_sent m store.logs.items lanes news ran.0;
        whole = same_whole m store.objects.items lanes news c.requires.whole ran.0;
        objects = refl;
        lanes = same_count m lanes news ran.0;
        logs = fronts_same store.logs.items;
      };
      done = ran.1;
    }

use Rattle.std.proofs.Common.{sym, ap, ◌∙◌, ⊎_elim, arith}
use Rattle.std.specs.Prelude.{slice_get}
use Rattle.std.proofs.lemmas.Bool.{cases_eq}
use Rattle.std.proofs.lemmas.Option.{slice_get_within}
use Rattle.batch_rt.proofs.ContinueLemmas.{continues_on}
use Rattle.batch_rt.proofs.steps.bring_all_home.Goals as goal

pub loop-lane-preserved : goal.loop-lane-preserved
loop-lane-preserved g c =
    let was = c.loop-lane.invariant in
    let home = c.in_ok-come_home.ensures in
    let here = c.loop-lane.lane in
    record {
      continues = continues_on g.C.LocalClass.local_meaning c.args.store.now c.loop-lane.store
          c.come_home.new.store was.continues home.continues;
      idle = λ n below lane at.
          ⊎_elim
          (λ e. home.idle lane (sym (ap (λ k. slice_get c.come_home.new.store.lanes.items k) e) ∙ at))
          (λ differs. was.idle n (omega (arith, below, differs)) lane
          (sym (home.others n differs) ∙ at))
          (cases_eq n here);
      done = λ n above lane at.
          was.done n (omega (arith, above)) lane
          (sym (home.others n (λ e. omega (arith, above, e))) ∙ at);
    }

pub returns-clause-idle : goal.returns-clause-idle
returns-clause-idle g c = λ n lane at.
    let was = c.loop-lane.invariant in
    let inside = slice_get_within c.loop-lane.store.lanes.items n lane at in
    let past = c.loop-lane-test.false in
    let end = c.len-lane-end.ensures in
    let counted = c.run_lanes.new.store.lanes.ok.0 in
    let ran = c.in_ok-run_lanes.ensures.continues.lanes in
    let kept = was.continues.lanes in
    was.idle n (omega (arith, inside, past, end, counted, ran, kept)) lane at

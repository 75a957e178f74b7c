use Rattle.std.proofs.Common.{sym, ap, ◌∙◌, ⊎_elim, arith}
use Rattle.std.specs.Prelude.{slice_get}
use Rattle.std.proofs.lemmas.Bool.{cases_eq}
use Rattle.std.proofs.lemmas.Option.{slice_get_within}
use Rattle.lane_store.proofs.StoreLemmas.{continues_on}
use Rattle.lane_store.proofs.home.bring_all_home.Goals as goal

pub loop-lane-preserved : goal.loop-lane-preserved
loop-lane-preserved g c =
    let was = c.loop-lane.invariant in
    let home = c.in_ok-bring_home.ensures in
    record {
      continues = continues_on g.C.LocalClass.local_meaning g.W.LaneWorker.home_of
          c.args.store.now c.loop-lane.store c.bring_home.new.store was.continues home.continues;
      idle = λ n below end at.
          ⊎_elim
          (λ e. home.idle end (sym (ap (λ k. slice_get c.bring_home.new.store.ends.items k) e) ∙ at))
          (λ differs. was.idle n (omega (arith, below, differs)) end
          (sym (home.others n differs) ∙ at))
          (cases_eq n c.loop-lane.lane);
    }

pub returns-clause-idle : goal.returns-clause-idle
returns-clause-idle g c = λ n end at.
    let was = c.loop-lane.invariant in
    let inside = slice_get_within c.loop-lane.store.ends.items n end at in
    let past = c.loop-lane-test.false in
    let last = c.len-lane-end.ensures in
    let counted = c.args.store.now.ends.ok.0 in
    let kept = was.continues.lanes in
    was.idle n (omega (arith, inside, past, last, counted, kept)) end at

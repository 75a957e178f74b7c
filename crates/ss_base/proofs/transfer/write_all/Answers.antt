use Rattle.std.proofs.Common.{arith, ◌∙◌, ◌≤◌, ◌-◌, length, drop}
use Rattle.std.proofs.lemmas.List.{take_all}
use Rattle.std.proofs.lemmas.Grind.{common_steps}
use Rattle.ss_base.proofs.SinksLemmas.{Appends-take-add}
use Rattle.ss_base.proofs.transfer.write_all.Goals as goal

pub loop-done-preserved : goal.loop-done-preserved
loop-done-preserved g c =
    let all :
    length (drop c.loop-done.done c.args.bytes.now) ≤ length c.args.bytes.now - c.loop-done.done =
    grind (arith, common_steps) in
    let gained = rw (take_all _ _ all) at c.in_ok-done.ensures.gained in
    record {
      within = grind (arith, common_steps);
      never_falls =
          omega (arith, c.loop-done.invariant.never_falls, c.write.ensures.cause.never_falls);
      sure = λ enough.
          let before = c.loop-done.invariant.sure enough in
          let now = c.in_ok-done.ensures.sure (omega arith) in
          (now.0.1 ∙ before.0, omega (arith, now.1, before.1));
      gained = Appends-take-add _ _ _ _ _ _ c.loop-done.invariant.gained gained;
    }

use Rattle.ss_top.proofs.ending.end_with.Goals as goal

pub returns-in-Ok-clause-script : goal.returns-in-Ok-clause-script
returns-in-Ok-clause-script g c =
    λ line refusal is.
    let kept = c.print.ensures.script line refusal is in
    (c.in-Ok.printed, kept.0, c.in-Ok.is, kept.1, kept.2)

use Rattle.std.proofs.Common.{◌∙◌, sym}
use Rattle.delegates.proofs.WorkLemmas.{working_none, working_more, working_done}
use Rattle.delegates.proofs.home.work.Goals as goal

pub loop-init : goal.loop-init
loop-init g c = working_none g.C.LocalClass.local_meaning c.args.home

pub loop-preserved : goal.loop-preserved
loop-preserved g c =
    working_more g.C.LocalClass.local_meaning c.args.home c.loop.store c.take.new.self
    c.loop.receiver c.try_next.new.self c.in-Some-try_next.m c.loop.invariant
    c.try_next.ensures.end c.in-Some-try_next.ensures.some.0 c.take.ensures.taken
    c.take.ensures.unchanged (sym c.is_stop-is_last.ensures ∙ c.if-is_last.false)

pub returns-then-is_last : goal.returns-then-is_last
returns-then-is_last g c =
    working_done g.C.LocalClass.local_meaning c.args.home c.loop.store c.take.new.self
    c.loop.receiver c.try_next.new.self c.in-Some-try_next.m c.loop.invariant
    c.try_next.ensures.end c.in-Some-try_next.ensures.some.0 c.take.ensures.taken
    c.take.ensures.unchanged (sym c.is_stop-is_last.ensures ∙ c.if-is_last.true)

use Rattle.std.proofs.Common.{[], ◌∷◌, ◌++◌, true, ◌≡◌, sym, ap, ◌∙◌, subst}
use Rattle.set_queue.specs.Ends.{sent}
use Rattle.delegates.proofs.WorkLemmas.{returned_as_it_was}
use Rattle.lane_ends.specs.LaneEnds.{finds}
use Rattle.lane_ends.proofs.EndLemmas.{sent_more, looked_on, gone_on_again, gone_on_taken}
use Rattle.lane_ends.proofs.posting.send_here.Goals as goal

pub returns-in_default : goal.returns-in_default
returns-in_default g c =
    sent_more g.C.LocalClass.local_meaning c.args.sender.now c.try_send.new.self c.args.home
    c.args.m c.requires.whole c.try_send.ensures.end c.in_default.ensures.ok.0 c.requires.finds

pub returns : goal.returns
returns g c =
    let m = g.C.LocalClass.local_meaning in
    let first = c.args.sender.now in
    let next = c.try_send.new.self in
    let then = c.take_all.new.sender in
    let last = c.send_waiting.new.sender in
    let home = c.args.home in
    let back = c.in_ok-home.home in
    let full = c.in-Err.ensures.full in
    let looked = looked_on m first next home c.requires.whole c.try_send.ensures.end full.1 in
    let took = c.in_ok-home.ensures.goes_on home looked.whole (returned_as_it_was m home) in
    let goes = gone_on_again m first next then home home back looked took in
    gone_on_taken m first then last home back back c.args.m goes
    (sent_more m then last back c.args.m took.whole c.send_waiting.ensures.end
    (c.send_waiting.ensures.sent ∙ ap (λ x. sent then ++ x ∷ []) full.0)
    (subst (λ s. finds s c.args.m ≡ true) (sym goes.same) c.requires.finds))

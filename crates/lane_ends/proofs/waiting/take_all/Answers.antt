use Rattle.std.proofs.Common.{refl, sym, ◌∙◌, append-nil, []}
use Rattle.set_queue.specs.Ends.{received}
use Rattle.delegates.proofs.WorkLemmas.{returned_on}
use Rattle.lane_ends.proofs.EndLemmas.{gone_on}
use Rattle.lane_ends.proofs.waiting.take_all.Goals as goal

pub returns-clause-all : goal.returns-clause-all
returns-clause-all g c =
    let e = c.take_rest-home.ensures in
    e.all ∙ sym e.sent

pub returns-clause-goes_on : goal.returns-clause-goes_on
returns-clause-goes_on g c = λ from whole back.
    let m = g.C.LocalClass.local_meaning in
    let e = c.take_rest-home.ensures in
    let home = c.take_rest-home.result in
    gone_on m c.args.sender.now c.take_rest-home.new.sender from home home [] whole
    (returned_on m from c.args.home home back e.back) e.one e.sent refl
    (e.sent ∙ sym e.all ∙ sym (append-nil (received home.receiver))) refl
    (sym c.broken.ensures ∙ c.if-broken.false)

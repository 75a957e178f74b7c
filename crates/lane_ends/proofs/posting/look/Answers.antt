use Rattle.std.proofs.Common.{refl, sym, ◌∙◌}
use Rattle.set_queue.specs.Ends.{known}
use Rattle.lane_ends.proofs.EndLemmas.{gone_on}
use Rattle.lane_ends.proofs.posting.look.Goals as goal

pub returns : goal.returns
returns g c = λ from whole back.
    let m = g.C.LocalClass.local_meaning in
    let e = c.meet.ensures in
    gone_on m c.args.sender.now c.meet.new.s from c.args.home _ (known c.meet.new.r) whole back
    e.one e.sender.1 e.receiver.1 (sym e.all) refl (sym c.broken.ensures ∙ c.if-broken.false)

use Rattle.lane_ends.proofs.EndLemmas.{sent_stop}
use Rattle.lane_ends.proofs.homing.take_home.Goals as goal

pub returns-in-Delegate-clause-same : goal.returns-in-Delegate-clause-same
returns-in-Delegate-clause-same g c =
    sent_stop g.C.LocalClass.local_meaning c.args.sender.now c.send_waiting.new.sender _
    c.requires c.send_waiting.ensures.end c.send_waiting.ensures.sent

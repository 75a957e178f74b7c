use Rattle.std.proofs.Common.{sym, ◌∙◌}
use Rattle.lane_ends.specs.LaneEnds.{taker_home}
use Rattle.lane_ends.proofs.EndLemmas.{if_ok2, has_come}
use Rattle.lane_ends.proofs.homing.come_home.Goals as goal

pub returns : goal.returns
returns g c =
    let m = g.C.LocalClass.local_meaning in
    let home_of = g.W.LaneWorker.home_of in
    let taker = c.in-Some.taker in
    let came = c.take_home-home.ensures in
    if_ok2 c.take_all.result _ _ _ c.take_all.ensures.all c.take_all.ensures.goes_on
    (λ home all goes_on. has_come m home_of c.args.end.now _ taker c.take_home-home.new.sender home
    (sym c.take.ensures.value ∙ c.in-Some.is) came.same
    (goes_on (taker_home home_of taker) came.same.whole came.back) all)

use Rattle.std.proofs.Common.{Some, true, ◌≡◌, refl, subst, sym, ap, ◌∙◌, rules}
use Rattle.lane_ends.specs.declared.lane_end.Taker.TheVariants.{Program}
use Rattle.lane_ends.specs.LaneEnds.{finds, taker_home}
use Rattle.lane_ends.proofs.EndLemmas.{sent_more, whole_from, comes_by, end_takes_in, takes_in_from}
use Rattle.lane_ends.proofs.posting.send.Goals as goal

pub returns-in-Some-Delegate-clause-takes : goal.returns-in-Some-Delegate-clause-takes
returns-in-Some-Delegate-clause-takes g c =
    let m = g.C.LocalClass.local_meaning in
    let home_of = g.W.LaneWorker.home_of in
    let end = c.args.end.now in
    let taker = c.in-Some-Delegate.field-0 in
    let is = c.in-Some-Delegate.is in
    end_takes_in m home_of end _ taker taker c.args.m is is
    (sent_more m end.sender c.send_waiting.new.sender (taker_home home_of taker) c.args.m
    (whole_from m home_of end taker is c.requires.whole) c.send_waiting.ensures.end
    c.send_waiting.ensures.sent
    (subst (λ s. finds s c.args.m ≡ true) (comes_by m home_of end taker is) c.requires.finds))

pub returns-clause-takes : goal.returns-clause-takes
returns-clause-takes g c =
    let m = g.C.LocalClass.local_meaning in
    let home_of = g.W.LaneWorker.home_of in
    let home = c.in-Some-Program.home in
    let back = c.in_ok-home.home in
    let kept : c.match-end.end ≡ c.args.end.now = search rules in
    let was = sym c.take.ensures.value ∙ c.in-Some-Program.is
    ∙ ap Some c.in-Some-Program.field-0-is in
    takes_in_from m home_of c.args.end.now c.match-end.end _ c.args.m kept
    (end_takes_in m home_of c.match-end.end _ (Program home) (Program back) c.args.m was refl
    c.in_ok-home.ensures)

use Rattle.std.proofs.Common.{refl, sym, ap, ◌∙◌, Some, ◌≡◌, subst, rules}
use Rattle.lane_ends.specs.declared.lane_end.Taker.TheVariants.{Program, Delegate}
use Rattle.lane_ends.specs.LaneEnds.{IsWhole}
use Rattle.lane_ends.proofs.EndLemmas.{gone_to, still_one_there, whole_from, end_goes_on, goes_on_from}
use Rattle.lane_ends.proofs.posting.hire.Goals as goal

pub look-requires : goal.look-requires
look-requires g c =
    let m = g.C.LocalClass.local_meaning in
    let home_of = g.W.LaneWorker.home_of in
    let end = c.match-end.end in
    let home = c.in-Some-Program.home in
    let back = c.in-Program.back in
    let kept : end ≡ c.args.end.now = search rules in
    let was = sym c.take.ensures.value ∙ c.in-Some-Program.is
    ∙ ap Some c.in-Some-Program.field-0-is in
    let whole = whole_from m home_of end (Program home) was
    (subst (IsWhole m home_of) (sym kept) c.requires.whole) in
    let hired = c.requires.means home (Program back) c.in-Program.ensures in
    still_one_there end.sender home.receiver back.receiver whole.one hired.took.receiver

pub returns-in-Delegate-clause-goes_on : goal.returns-in-Delegate-clause-goes_on
returns-in-Delegate-clause-goes_on g c =
    let m = g.C.LocalClass.local_meaning in
    let home_of = g.W.LaneWorker.home_of in
    let end = c.match-end.end in
    let home = c.in-Some-Program.home in
    let kept : end ≡ c.args.end.now = search rules in
    let was = sym c.take.ensures.value ∙ c.in-Some-Program.is
    ∙ ap Some c.in-Some-Program.field-0-is in
    let taker = Delegate c.in-Delegate.worker c.in-Delegate.bell in
    goes_on_from m home_of c.args.end.now end _ kept
    (end_goes_on m home_of end _ (Program home) taker was refl
    (gone_to m end.sender home (home_of c.in-Delegate.worker)
    (c.requires.means home taker c.in-Delegate.ensures)
    (whole_from m home_of end (Program home) was
    (subst (IsWhole m home_of) (sym kept) c.requires.whole))))

pub returns-in_ok-home-in-Program-clause-goes_on : goal.returns-in_ok-home-in-Program-clause-goes_on
returns-in_ok-home-in-Program-clause-goes_on g c =
    let m = g.C.LocalClass.local_meaning in
    let home_of = g.W.LaneWorker.home_of in
    let end = c.match-end.end in
    let home = c.in-Some-Program.home in
    let kept : end ≡ c.args.end.now = search rules in
    let was = sym c.take.ensures.value ∙ c.in-Some-Program.is
    ∙ ap Some c.in-Some-Program.field-0-is in
    goes_on_from m home_of c.args.end.now end _ kept
    (end_goes_on m home_of end _ (Program home) (Program c.in_ok-home-in-Program.home) was refl
    (c.in_ok-home-in-Program.ensures home
    (whole_from m home_of end (Program home) was
    (subst (IsWhole m home_of) (sym kept) c.requires.whole))
    (c.requires.means home (Program c.in-Program.back) c.in-Program.ensures)))

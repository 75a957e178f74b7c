use Rattle.std.proofs.Common.{refl, sym, ◌∙◌}
use Rattle.std.proofs.lemmas.Result.{on_ok_weaker}
use Rattle.lane_objects.specs.Objects.{found_at}
use Rattle.lane_store.proofs.IdleLemmas.{idle_home, still_home}
use Rattle.lane_store.proofs.StoreLemmas.{continues_on}
use Rattle.lane_store.proofs.CallLemmas.{idle_catch, idle_for_all}
use Rattle.lane_store.proofs.calls.reclaim.Goals as goal

pub returns-then-not-isolating-clause-home : goal.returns-then-not-isolating-clause-home
returns-then-not-isolating-clause-home g c =
    idle_home g.C.LocalClass.local_meaning g.W.LaneWorker.home_of c.args.store.now.objects.items
    c.args.store.now.ends.items c.requires.whole.apart
    (c.requires.idle (sym c.isolating.ensures ∙ c.if-not-isolating.true)) c.args.o.0

pub returns-then-not-isolating-clause-caught_up : goal.returns-then-not-isolating-clause-caught_up
returns-then-not-isolating-clause-caught_up g c =
    idle_catch g.C.LocalClass.local_meaning g.W.LaneWorker.home_of c.args.store.now
    c.args.delegates _ (c.requires.logs ∙ sym c.requires.lanes)
    (c.requires.idle (sym c.isolating.ensures ∙ c.if-not-isolating.true))

pub returns-then-not-isolating-clause-idle_for : goal.returns-then-not-isolating-clause-idle_for
returns-then-not-isolating-clause-idle_for g c =
    idle_for_all g.C.LocalClass.local_meaning g.W.LaneWorker.home_of c.args.store.now
    c.args.delegates _ (c.requires.idle (sym c.isolating.ensures ∙ c.if-not-isolating.true))

pub returns-clause-continues : goal.returns-clause-continues
returns-clause-continues g c =
    on_ok_weaker c.catch_up.result
    (λ on. continues_on g.C.LocalClass.local_meaning g.W.LaneWorker.home_of c.args.store.now
    c.bring_object_home.new.store c.catch_up.new.store
    c.in_ok-bring_object_home.ensures.continues on)
    c.catch_up.ensures.continues

pub returns-clause-home : goal.returns-clause-home
returns-clause-home g c =
    let before = c.bring_object_home.new.store.objects.items in
    let after = c.catch_up.new.store.objects.items in
    on_ok_weaker c.catch_up.result
    (λ found. still_home before after c.args.o.0 (found_at after c.args.o.0) found
    c.in_ok-bring_object_home.ensures.home refl)
    c.catch_up.ensures.found

use Rattle.std.proofs.Common.{◌≡◌, sym, ◌∙◌, subst, arith}
use Rattle.std.specs.Prelude.{slice_get}
use Rattle.std.proofs.lemmas.Result.{on_ok_weaker}
use Rattle.delegation.proofs.runs.SentLemmas.{lane_within}
use Rattle.lane_store.specs.LaneStores.{IsIdleAt, store_sent}
use Rattle.lane_store.proofs.IdleLemmas.{idle_caught_up}
use Rattle.lane_store.proofs.calls.catch_up.Goals as goal

pub bring_home-requires : goal.bring_home-requires
bring_home-requires g c =
    let below = lane_within c.in-Some.set.0 c.args.delegates c.requires.some in
    record {
      whole = c.requires.whole;
      known = rw (c.from.ensures, c.lane_of.ensures, c.requires.lanes) below;
      logged = rw (c.from.ensures, c.lane_of.ensures, c.requires.logs) below;
    }

pub returns-in-Some-clause-caught_up : goal.returns-in-Some-clause-caught_up
returns-in-Some-clause-caught_up g c =
    let m = g.C.LocalClass.local_meaning in
    let home_of = g.W.LaneWorker.home_of in
    let new = c.bring_home.new.store in
    on_ok_weaker c.bring_home.result
    (λ home. rw c.in-Some.is
    (subst (λ l. slice_get new.logs.items l ≡ slice_get (store_sent m home_of new) l)
    (c.from.ensures ∙ c.lane_of.ensures)
    (idle_caught_up m home_of new.logs.items new.ends.items c.from.result
    (sym home.continues.logs.count ∙ c.requires.logs
    ∙ sym (home.continues.lanes ∙ c.requires.lanes)) home.idle)))
    c.bring_home.ensures

pub returns-in-Some-clause-continues : goal.returns-in-Some-clause-continues
returns-in-Some-clause-continues g c =
    on_ok_weaker c.bring_home.result (λ home. home.continues) c.bring_home.ensures

pub returns-in-Some-clause-found : goal.returns-in-Some-clause-found
returns-in-Some-clause-found g c =
    on_ok_weaker c.bring_home.result (λ home. home.found) c.bring_home.ensures

pub returns-in-Some-clause-idle_for : goal.returns-in-Some-clause-idle_for
returns-in-Some-clause-idle_for g c =
    let m = g.C.LocalClass.local_meaning in
    let home_of = g.W.LaneWorker.home_of in
    let new = c.bring_home.new.store in
    on_ok_weaker c.bring_home.result
    (λ home. rw c.in-Some.is
    (subst (λ l. IsIdleAt m home_of l new.ends.items) (c.from.ensures ∙ c.lane_of.ensures) home.idle))
    c.bring_home.ensures

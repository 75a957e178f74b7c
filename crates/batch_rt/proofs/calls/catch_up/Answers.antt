use Rattle.std.proofs.Common.{◌≡◌, sym, ◌∙◌, subst}
use Rattle.std.specs.Prelude.{slice_get}
use Rattle.delegation.proofs.runs.SentLemmas.{lane_within}
use Rattle.delegation.proofs.plains.OperationLemmas.{on_ok}
use Rattle.batch_rt.specs.Stores.{store_sent}
use Rattle.batch_rt.proofs.IdleLemmas.{idle_caught_up}
use Rattle.batch_rt.proofs.calls.catch_up.Goals as goal

pub bring_home-requires : goal.bring_home-requires
bring_home-requires g c =
    let below = lane_within c.in-Some.set.0 c.args.delegates c.requires.some in
    record {
      whole = c.requires.whole;
      known = rw (c.from.ensures, c.lane_of.ensures, c.requires.lanes) below;
      logged = rw (c.from.ensures, c.lane_of.ensures, c.requires.logs) below;
    }

pub returns-in-Some-clause-caught_up : goal.returns-in-Some-clause-caught_up
returns-in-Some-clause-caught_up g c =
    let new = c.bring_home.new.store in
    on_ok c.bring_home.result c.bring_home.ensures.continues c.bring_home.ensures.idle
    (λ on idle. rw c.in-Some.is
    (subst (λ l. slice_get new.logs.items l ≡ slice_get (store_sent new) l)
    (c.from.ensures ∙ c.lane_of.ensures)
    (idle_caught_up new.logs.items new.lanes.items c.from.result
    (sym on.logs.count ∙ c.requires.logs ∙ sym (on.lanes ∙ c.requires.lanes)) idle)))

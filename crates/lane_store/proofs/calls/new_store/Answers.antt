use Rattle.std.proofs.Common.{refl, sym, ap, ◌∙◌, subst, length, replicate, [], ◌∷◌, ◌++◌, ◌≡◌, ◌+◌, arith}
use Rattle.std.proofs.lemmas.List.{length_push, replicate_more, length-replicate}
use Rattle.lane_ends.specs.LaneEnds.{IsIdle}
use Rattle.lane_store.specs.LaneStores.{Each}
use Rattle.lane_objects.proofs.OutcomeLemmas.{laws_from}
use Rattle.lane_store.proofs.StoreLemmas.{each_push}
use Rattle.lane_store.proofs.IdleLemmas.{idle_sent, idle_total}
use Rattle.lane_store.proofs.calls.new_store.Goals as goal

pub loop-preserved : goal.loop-preserved
loop-preserved g c =
    let was = c.loop.invariant in
    let Idle = IsIdle g.C.LocalClass.local_meaning g.W.LaneWorker.home_of in
    record {
      idle = subst (Each Idle) (sym c.in_ok-push.ensures.items)
          (each_push Idle c.loop.ends.items c.in_ok-new_end.field-0 was.idle
          c.in_ok-new_end.ensures);
      lanes = ap length c.in_ok-push.ensures.items
          ∙ length_push c.loop.ends.items c.in_ok-new_end.field-0 ∙ ap (λ n. n + 1) was.lanes;
      logs = c.in_ok-push-2.ensures.items
          ∙ ap (λ log. c.loop.logs.items ++ log ∷ []) c.new.ensures.items
          ∙ ap (λ logs. logs ++ [] ∷ []) was.logs ∙ replicate_more c.loop.counter [];
    }

pub returns : goal.returns
returns g c =
    let was = c.loop.invariant in
    let m = g.C.LocalClass.local_meaning in
    let home_of = g.W.LaneWorker.home_of in
    let below = c.loop-test.false in
    let above = c.loop.auto.counter-end in
    let count : c.loop.counter ≡ c.args.lane_count = omega (arith, below, above) in
    let laws = laws_from m _ _ g.met.C.LocalClass.local_same_unit
    g.met.C.LocalClass.local_same_join g.met.C.LocalRed.LocalReducible.local_laws in
    let unit_is : c.local_unit.result ≡ m.unit =
    c.local_unit.ensures ∙ sym g.met.C.LocalClass.local_same_unit in
    let made : m.join c.local_unit.result m.unit ≡ c.local_unit.result =
    ap (λ t. m.join t m.unit) unit_is ∙ laws.unit_of_unit ∙ sym unit_is in
    record {
      state = rw (
        c.new-2.ensures.items,
        idle_total m home_of c.local_unit.result c.loop.ends.items made was.idle,
        unit_is,
      ) refl;
      sent = idle_sent m home_of c.loop.logs.items c.loop.ends.items was.idle
          (ap length was.logs ∙ length-replicate c.loop.counter [] ∙ sym was.lanes);
      logs = was.logs ∙ ap (λ n. replicate n []) count;
      lanes = was.lanes ∙ count;
      objects = c.new-2.ensures.items;
      idle = was.idle;
      made = made;
    }

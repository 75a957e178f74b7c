use Rattle.std.proofs.Common.{refl, sym, ap, ◌∙◌, subst, length, replicate, [], ◌∷◌, ◌++◌, ◌≡◌, ◌+◌, arith}
use Rattle.std.proofs.lemmas.List.{length_push, replicate_more, length-replicate}
use Rattle.batch_rt.specs.Lanes.{IsIdle}
use Rattle.batch_rt.specs.Stores.{Each}
use Rattle.batch_rt.proofs.IdleLemmas.{idle_sent, idle_total}
use Rattle.batch_rt.proofs.CallLemmas.{each_push}
use Rattle.batch_rt.proofs.calls.new_store.Goals as goal

pub loop-preserved : goal.loop-preserved
loop-preserved g c =
    let was = c.loop.invariant in
    let empty = c.empty_lane.ensures in
    record {
      idle = subst (Each IsIdle) (sym c.in_ok-push.ensures.items)
          (each_push IsIdle c.loop.lanes.items c.empty_lane.result was.idle (record {
            numbers = ap length empty.numbers;
            values = ap length empty.values;
            pending = ap length empty.pending;
            ran = ap length empty.ran;
            part = rw empty.part refl;
          }));
      lanes = ap length c.in_ok-push.ensures.items
          ∙ length_push c.loop.lanes.items c.empty_lane.result ∙ ap (λ n. n + 1) was.lanes;
      logs = c.in_ok-push-2.ensures.items
          ∙ ap (λ log. c.loop.logs.items ++ log ∷ []) c.new.ensures.items
          ∙ ap (λ logs. logs ++ [] ∷ []) was.logs ∙ replicate_more c.loop.counter [];
    }

pub returns : goal.returns
returns g c =
    let was = c.loop.invariant in
    let m = g.C.LocalClass.local_meaning in
    let below = c.loop-test.false in
    let above = c.loop.auto.counter-end in
    let count : c.loop.counter ≡ c.args.lane_count = omega (arith, below, above) in
    record {
      state = rw (
        c.new-2.ensures.items,
        idle_total m c.local_unit.result c.loop.lanes.items was.idle,
        c.local_unit.ensures,
        g.met.C.LocalClass.local_same_unit,
      ) refl;
      sent = idle_sent c.loop.logs.items c.loop.lanes.items was.idle
          (ap length was.logs ∙ length-replicate c.loop.counter [] ∙ sym was.lanes);
      logs = was.logs ∙ ap (λ n. replicate n []) count;
      lanes = was.lanes ∙ count;
      objects = c.new-2.ensures.items;
      idle = was.idle;
    }

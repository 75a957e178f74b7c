use Rattle.std.proofs.Common.{refl, length, sym, ap, ◌∙◌, ◌++◌}
use Rattle.std.specs.Prelude.{slice_set}
use Rattle.std.specs.Vec.{with_item}
use Rattle.std.proofs.lemmas.Option.{slice_get_read}
use Rattle.std.proofs.lemmas.Result.{on_ok_weaker}
use Rattle.batch_rt.proofs.HomeLemmas.{comes_home}
use Rattle.batch_rt.proofs.MoveLemmas.{laws_from}
use Rattle.batch_rt.proofs.steps.come_home.Goals as goal

pub returns : goal.returns
returns g c =
    let m = g.C.LocalClass.local_meaning in
    let store = c.args.store.now in
    let old = c.index_mut.result.now in
    let new = c.replace-numbers.new.dest in
    let log = c.index_mut-2.result.now in
    let here = slice_get_read store.lanes.items (length store.lanes.items) c.args.lane old refl
    c.requires.known c.index_mut.ensures.value in
    let logged = slice_get_read store.logs.items (length store.logs.items) c.args.lane log refl
    c.requires.logged c.index_mut-2.ensures.value in
    let taken = c.replace-numbers.ensures.value in
    let empty = c.empty_lane.ensures in
    on_ok_weaker c.append.result
    (λ appended. comes_home m store (record store {
      objects = c.bring_values.new.objects;
      total = c.join_part.new.total;
      lanes = with_item store.lanes c.args.lane new;
      logs = with_item store.logs c.args.lane c.append.new.self;
    }) c.args.lane old new log
    (laws_from m _ _ g.met.C.LocalClass.local_same_unit g.met.C.LocalClass.local_same_join
    g.met.C.LocalRed.LocalReducible.local_laws)
    c.requires.whole here (c.requires.done old here)
    (rw c.replace-numbers.ensures.after (record {
      numbers = ap length empty.numbers;
      values = ap length empty.values;
      pending = ap length empty.pending;
      ran = ap length empty.ran;
      part = rw empty.part refl;
    }))
    logged (rw (sym taken) c.bring_values.ensures) (rw (sym taken) c.in_ok-join_part.ensures) refl
    (ap (λ log. slice_set store.logs.items c.args.lane log)
    (appended ∙ ap (λ lane. log ++ lane.ran.items) taken)))
    c.append.ensures

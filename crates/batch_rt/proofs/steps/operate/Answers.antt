use Rattle.std.proofs.Common.{refl, length, sym, ap, ◌∙◌}
use Rattle.std.specs.Option.{option_copied}
use Rattle.std.proofs.lemmas.List.{length-set, set-set}
use Rattle.std.proofs.lemmas.Option.{slice_get_read}
use Rattle.batch_rt.specs.declared.object.Object.TheVariants.{Here}
use Rattle.batch_rt.specs.Stores.{state_from, found_in}
use Rattle.batch_rt.proofs.StoreLemmas.{whole_set}
use Rattle.batch_rt.proofs.MoveLemmas.{state_operated, laws_from}
use Rattle.batch_rt.proofs.steps.operate.Goals as goal

pub returns : goal.returns
returns g c =
    let store = c.args.store.now in
    let objects = store.objects.items in
    let lanes = store.lanes.items in
    let old = c.index_mut.result.now in
    let now = Here c.local_apply.new.self in
    let at = slice_get_read objects (length objects) c.args.o.0 old refl c.requires.known
    c.index_mut.ensures.value in
    let m = g.C.LocalClass.local_meaning in
    let set = set-set objects c.args.o.0 c.send_object.new.object now in
    record {
      state = ap (λ objects. state_from m objects c.local_apply.new.red lanes) set
          ∙ state_operated m objects lanes c.args.o.0 old c.args.op.now c.in_ok-value.value
          c.local_apply.new.self store.total c.local_apply.new.red
          (laws_from m _ _ g.met.C.LocalClass.local_same_unit g.met.C.LocalClass.local_same_join
          g.met.C.LocalRed.LocalReducible.local_laws)
          at c.in_ok-value.ensures.value
          (c.in_ok-local_apply.ensures.value ∙ ap (λ read. (m.step c.in_ok-value.value c.args.op.now
          (option_copied read)).0) c.no_reading.ensures)
          (c.in_ok-local_apply.ensures.contribution ∙ ap (λ read. m.join store.total
          (m.step c.in_ok-value.value c.args.op.now (option_copied read)).1) c.no_reading.ensures);
      whole = rw set (whole_set objects lanes c.args.o.0 old now c.requires.whole at
          (sym (sym (ap found_in at) ∙ c.requires.home)));
      objects = ap length set ∙ length-set objects c.args.o.0 now;
      lanes = refl;
      logs = refl;
    }

use Rattle.std.proofs.Common.{Some, map, refl, length, sym, ap, ◌∙◌}
use Rattle.std.specs.Prelude.{slice_set}
use Rattle.std.specs.Option.{option_copied}
use Rattle.std.proofs.lemmas.List.{map-set, length-set, set-set}
use Rattle.std.proofs.lemmas.Option.{slice_get_read}
use Rattle.lane_objects.specs.declared.object.Object.TheVariants.{Here}
use Rattle.lane_objects.specs.Objects.{value_at_home, found_in, found_at}
use Rattle.lane_objects.specs.Outcomes.{state_from}
use Rattle.lane_store.specs.LaneStores.{stores_of}
use Rattle.lane_objects.proofs.OutcomeLemmas.{laws_from, apart_by_found, found_set}
use Rattle.lane_objects.proofs.RunLemmas.{state_operated}
use Rattle.lane_store.proofs.ComeLemmas.{value_at}
use Rattle.lane_store.proofs.calls.operate.Goals as goal

pub returns : goal.returns
returns g c =
    let store = c.args.store.now in
    let m = g.C.LocalClass.local_meaning in
    let objects = store.objects.items in
    let stores = stores_of m g.W.LaneWorker.home_of store.ends.items in
    let old = c.index_mut.result.now in
    let now = Here c.local_apply.new.self in
    let at = slice_get_read objects (length objects) c.args.o.0 old refl c.requires.known
    c.index_mut.ensures.value in
    let set = set-set objects c.args.o.0 c.send_object.new.object now in
    let laws = laws_from m _ _ g.met.C.LocalClass.local_same_unit
    g.met.C.LocalClass.local_same_join g.met.C.LocalRed.LocalReducible.local_laws in
    let sum_is = c.in_ok-local_apply.ensures.contribution
    ∙ ap (λ read. m.join store.total
    (m.step c.in_ok-value.value c.args.op.now (option_copied read)).1) c.no_reading.ensures in
    let value_is = c.in_ok-local_apply.ensures.value
    ∙ ap (λ read. (m.step c.in_ok-value.value c.args.op.now (option_copied read)).0)
    c.no_reading.ensures in
    record {
      state = ap (λ objects. state_from m objects c.local_apply.new.red stores) set
          ∙ state_operated m objects stores c.args.o.0 old c.args.op.now c.in_ok-value.value
          c.local_apply.new.self store.total c.local_apply.new.red laws
          at c.in_ok-value.ensures.value
          value_is sum_is;
      lawful = laws;
      effect = record {
        value = c.in_ok-value.value;
        was = value_at m g.W.LaneWorker.home_of objects c.args.o.0 old at
            ∙ ap Some c.in_ok-value.ensures.value;
        now = ap (map value_at_home) set
            ∙ map-set value_at_home objects c.args.o.0 now
            ∙ ap (λ v. slice_set (map value_at_home objects) c.args.o.0 (Some v)) value_is;
        total_is = sum_is;
      };
      whole = record {
        apart = rw set (apart_by_found objects _ stores c.requires.whole.apart
            (found_set objects c.args.o.0 old now at
            (sym (sym (ap found_in at) ∙ c.requires.home))));
        lanes = c.requires.whole.lanes;
        made = ap (λ t. m.join t m.unit) sum_is ∙ laws.unit_of_join store.total _ ∙ sym sum_is;
      };
      objects = ap length set ∙ length-set objects c.args.o.0 now;
      lanes = refl;
      logs = refl;
      found = λ n k number is.
          sym (ap (λ objects. found_at objects n) set
          ∙ found_set objects c.args.o.0 old now at
          (sym (sym (ap found_in at) ∙ c.requires.home)) n) ∙ is;
    }

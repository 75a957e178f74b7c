use Rattle.std.proofs.Common.{refl, length, map, sym, ap, ◌∙◌, Some}
use Rattle.std.specs.Prelude.{slice_set}
use Rattle.std.specs.Arc.{arc_value}
use Rattle.std.proofs.lemmas.List.{map-set, length-set}
use Rattle.std.specs.Vec.{with_item}
use Rattle.std.proofs.lemmas.Option.{slice_get_read}
use Rattle.std.proofs.lemmas.Result.{IfOk-weaker, on_ok_weaker}
use Rattle.delegation.specs.PlainParts.{state_of}
use Rattle.delegation.proofs.plains.OperationLemmas.{on_ok}
use Rattle.delegation.proofs.runs.FrontLemmas.{fronts_same}
use Rattle.lane_objects.specs.Objects.{value_at_home, found_in}
use Rattle.lane_objects.specs.Outcomes.{total_after}
use Rattle.lane_store.specs.LaneStores.{stores_of}
use Rattle.lane_objects.proofs.OutcomeLemmas.{apart_by_found, found_set, values_kept, value_here, value_home}
use Rattle.lane_objects.proofs.ListLemmas.{get-set, set_same}
use Rattle.lane_store.proofs.ComeLemmas.{comes_on_itself, value_at}
use Rattle.lane_store.proofs.sends.share_one.Goals as goal

pub returns : goal.returns
returns g c =
    let store = c.args.store.now in
    let m = g.C.LocalClass.local_meaning in
    let objects = store.objects.items in
    let stores = stores_of m g.W.LaneWorker.home_of store.ends.items in
    let old = c.index_mut.result.now in
    let new = c.share_object.new.object in
    let at = slice_get_read objects (length objects) c.args.o.0 old refl c.requires.known
    c.index_mut.ensures.value in
    let home = sym (ap found_in at) ∙ c.requires.home in
    record {
      continues = on_ok c.share_object.result c.share_object.ensures.same
          c.share_object.ensures.home
          (λ same there. record {
            state = ap (λ values. state_of values (total_after m store.total stores))
                (values_kept objects stores c.args.o.0 old new at home same);
            sent = refl;
            whole = record {
              apart = apart_by_found objects _ stores c.requires.whole.apart
                  (found_set objects c.args.o.0 old new at (there ∙ sym home));
              lanes = c.requires.whole.lanes;
              made = c.requires.whole.made;
            };
            objects = length-set objects c.args.o.0 new;
            lanes = refl;
            logs = fronts_same store.logs.items;
            found = λ n k number is. sym (found_set objects c.args.o.0 old new at (there ∙ sym home) n)
                ∙ is;
            comes_on = comes_on_itself m g.W.LaneWorker.home_of store
                (record store { objects = with_item store.objects c.args.o.0 new })
                (map-set value_at_home objects c.args.o.0 new
                ∙ ap (slice_set (map value_at_home objects) c.args.o.0) same
                ∙ set_same (map value_at_home objects) c.args.o.0 (value_at_home old)
                (value_at m g.W.LaneWorker.home_of objects c.args.o.0 old at))
                refl refl refl;
          });
      value = IfOk-weaker c.share_object.result _ _
          (λ shared is. value_here objects stores c.args.o.0 old at
          ∙ ap Some (value_home stores old (arc_value shared) is))
          c.share_object.ensures.value;
      home = on_ok_weaker c.share_object.result
          (λ there. ap found_in (get-set objects c.args.o.0 old new at) ∙ there)
          c.share_object.ensures.home;
    }

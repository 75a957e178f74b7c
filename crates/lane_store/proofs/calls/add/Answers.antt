use Rattle.std.proofs.Common.{refl, sym, ap, ◌∙◌, map, length}
use Rattle.std.proofs.lemmas.List.{map_push, length_push}
use Rattle.delegation.specs.PlainParts.{state_of}
use Rattle.lane_objects.specs.declared.object.Object.TheVariants.{Here}
use Rattle.lane_objects.specs.Objects.{value_at_home, found_at}
use Rattle.lane_objects.specs.Outcomes.{value_after, total_after}
use Rattle.lane_store.specs.LaneStores.{stores_of}
use Rattle.lane_objects.proofs.OutcomeLemmas.{apart_by_found, found_push}
use Rattle.lane_store.proofs.calls.add.Goals as goal

pub returns-clause-added : goal.returns-clause-added
returns-clause-added g c =
    let store = c.args.store.now in
    let m = g.C.LocalClass.local_meaning in
    let stores = stores_of m g.W.LaneWorker.home_of store.ends.items in
    let pushed = c.in-Ok.ensures.items in
    record {
      state = ap (λ values. state_of values (total_after m store.total stores))
          (ap (λ items. map (value_after stores) items) pushed
          ∙ map_push (value_after stores) store.objects.items (Here c.args.value));
      whole = λ whole. record {
        apart = apart_by_found store.objects.items c.push.new.self.items stores whole.apart
            (λ n. ap (λ items. found_at items n) pushed
            ∙ found_push store.objects.items (Here c.args.value) refl n);
        lanes = whole.lanes;
        made = whole.made;
      };
      objects = ap length pushed ∙ length_push store.objects.items (Here c.args.value);
      lanes = refl;
      logs = refl;
      found = λ n k number is.
          sym (ap (λ items. found_at items n) pushed
          ∙ found_push store.objects.items (Here c.args.value) refl n) ∙ is;
      values = ap (map value_at_home) pushed
          ∙ map_push value_at_home store.objects.items (Here c.args.value);
      total = refl;
    }

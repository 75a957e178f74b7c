use Rattle.std.proofs.Common.{refl, ap, ◌∙◌, map, length}
use Rattle.std.proofs.lemmas.List.{map_push, length_push}
use Rattle.delegation.specs.PlainParts.{state_of}
use Rattle.batch_rt.specs.declared.object.Object.TheVariants.{Here}
use Rattle.batch_rt.specs.Stores.{value_after, total_after, found_at}
use Rattle.batch_rt.proofs.StoreLemmas.{whole_by_found, found_push}
use Rattle.batch_rt.proofs.calls.add.Goals as goal

pub returns-clause-added : goal.returns-clause-added
returns-clause-added g c =
    let store = c.args.store.now in
    let m = g.C.LocalClass.local_meaning in
    let pushed = c.in-Ok.ensures.items in
    record {
      state = ap (λ values. state_of values (total_after m store.total store.lanes.items))
          (ap (λ items. map (value_after m store.lanes.items) items) pushed
          ∙ map_push (value_after m store.lanes.items) store.objects.items (Here c.args.value));
      whole = λ whole. whole_by_found store.objects.items c.push.new.self.items store.lanes.items
          whole (λ n. ap (λ items. found_at items n) pushed
          ∙ found_push store.objects.items (Here c.args.value) refl n);
      objects = ap length pushed ∙ length_push store.objects.items (Here c.args.value);
      lanes = refl;
      logs = refl;
    }

use Rattle.std.proofs.Common.{refl, length, sym, ap, ◌∙◌, Some}
use Rattle.std.specs.Arc.{arc_value}
use Rattle.std.proofs.lemmas.List.{length-set}
use Rattle.std.proofs.lemmas.Option.{slice_get_read}
use Rattle.std.proofs.lemmas.Result.{IfOk-weaker}
use Rattle.delegation.specs.PlainParts.{state_of}
use Rattle.delegation.proofs.plains.OperationLemmas.{on_ok}
use Rattle.delegation.proofs.runs.FrontLemmas.{fronts_same}
use Rattle.batch_rt.specs.Stores.{found_in, total_after}
use Rattle.batch_rt.proofs.StoreLemmas.{whole_set, values_kept, value_here, value_home}
use Rattle.batch_rt.proofs.steps.share_one.Goals as goal

pub returns : goal.returns
returns g c =
    let store = c.args.store.now in
    let objects = store.objects.items in
    let lanes = store.lanes.items in
    let old = c.index_mut.result.now in
    let new = c.share_object.new.object in
    let at = slice_get_read objects (length objects) c.args.o.0 old refl c.requires.known
    c.index_mut.ensures.value in
    let home = sym (ap found_in at) ∙ c.requires.home in
    let m = g.C.LocalClass.local_meaning in
    record {
      continues = on_ok c.share_object.result c.share_object.ensures.same
          c.share_object.ensures.home
          (λ same there. record {
            state = ap (λ values. state_of values (total_after m store.total lanes))
                (values_kept m objects lanes c.args.o.0 old new at home same);
            sent = refl;
            whole = whole_set objects lanes c.args.o.0 old new c.requires.whole at
                (there ∙ sym home);
            objects = length-set objects c.args.o.0 new;
            lanes = refl;
            logs = fronts_same store.logs.items;
          });
      value = IfOk-weaker c.share_object.result _ _
          (λ shared is. value_here m objects lanes c.args.o.0 old at
          ∙ ap Some (value_home m lanes old (arc_value shared) is))
          c.share_object.ensures.value;
    }

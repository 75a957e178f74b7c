use Rattle.std.proofs.Common.{◌≡◌, ◌++◌, refl, length, sym, ap, ◌∙◌}
use Rattle.std.specs.Prelude.{slice_get, slice_set}
use Rattle.std.specs.Option.{option_map}
use Rattle.std.proofs.lemmas.List.{length-set, set-set}
use Rattle.std.proofs.lemmas.Option.{same_Some, slice_get_read}
use Rattle.delegates.specs.Stores.{stored}
use Rattle.lane_ends.specs.LaneEnds.{comes_to}
use Rattle.lane_objects.specs.Objects.{come_back}
use Rattle.lane_objects.proofs.ListLemmas.{get-set}
use Rattle.lane_objects.proofs.OutcomeLemmas.{laws_from}
use Rattle.lane_store.proofs.StoreLemmas.{emptied, idle_from, comes_home}
use Rattle.lane_store.proofs.home.bring_home.Goals as goal

pub returns : goal.returns
returns g c =
    let m = g.C.LocalClass.local_meaning in
    let home_of = g.W.LaneWorker.home_of in
    let store = c.args.store.now in
    let ends = store.ends.items in
    let lane = c.args.lane in
    let old = c.index_mut.result.now in
    let mid = c.come_home.new.end in
    let last = c.index_mut-3.result.now in
    let log = c.index_mut-2.result.now in
    let home = c.in_ok-held.field-0 in
    let come = c.in_ok-held.ensures in
    let brought = c.bring_values.ensures in
    let was = comes_to m home_of old in
    let here = slice_get_read ends (length ends) lane old refl c.requires.known
    c.index_mut.ensures.value in
    let there = slice_get_read (slice_set ends lane mid) (length ends) lane last
    (sym (length-set ends lane mid)) c.requires.known c.index_mut-3.ensures.value in
    let same : last ≡ mid = same_Some _ _ (sym there ∙ get-set ends lane old mid here) in
    let logged = slice_get_read store.logs.items (length store.logs.items) lane log refl
    c.requires.logged c.index_mut-2.ensures.value in
    let total_is = c.take_red.ensures.red ∙ ap (λ s. s.total) brought.left
    ∙ ap (λ s. s.total) come.store in
    let runs_are = c.take_runs.ensures.runs ∙ ap (λ s. s.runs) c.take_red.ensures.left
    ∙ ap (λ s. s.runs) brought.left ∙ ap (λ s. s.runs) come.store in
    comes_home m home_of store _ lane old _ log
    (laws_from m _ _ g.met.C.LocalClass.local_same_unit g.met.C.LocalClass.local_same_join
    g.met.C.LocalRed.LocalReducible.local_laws)
    c.requires.whole here logged
    (idle_from m home_of old mid _ home _ come (ap (λ end. end.sender) same) refl refl
    (emptied m (stored home.store) (stored c.bring_values.new.store)
    (stored c.take_red.new.self) (stored c.take_runs.new.self) brought.left
    c.take_red.ensures.left c.take_runs.ensures.left come.unbroken))
    (λ n. brought.home n
    ∙ ap (λ s. option_map (come_back s n) (slice_get store.objects.items n)) come.store)
    brought.count
    (c.in_ok-join_total.ensures ∙ ap (λ more. m.join store.total more) total_is)
    (set-set ends lane mid _)
    (ap (λ runs. slice_set store.logs.items lane runs)
    (c.in_ok-append.ensures ∙ ap (λ runs. log ++ runs) runs_are))

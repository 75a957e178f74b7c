use Rattle.std.proofs.Common.{ℕ, refl, length, sym, ap, ◌∙◌, arith}
use Rattle.std.specs.Option.{option_map}
use Rattle.std.proofs.lemmas.Option.{slice_get_read}
use Rattle.std.proofs.lemmas.List.{length-map}
use Rattle.std.proofs.lemmas.Result.{on_ok_weaker}
use Rattle.ss_base.specs.declared.ids.ObjectId.{ObjectId}
use Rattle.lane_ends.specs.LaneEnds.{comes_to}
use Rattle.lane_objects.specs.Objects.{found_in, found_at}
use Rattle.lane_store.specs.LaneStores.{stores_of}
use Rattle.lane_store.proofs.IdleLemmas.{lane_below, home_from}
use Rattle.lane_store.proofs.calls.bring_object_home.Goals as goal

pub bring_home-requires : goal.bring_home-requires
bring_home-requires g c =
    let m = g.C.LocalClass.local_meaning in
    let home_of = g.W.LaneWorker.home_of in
    let store = c.args.store.now in
    let at = slice_get_read store.objects.items (length store.objects.items) c.args.o.0
    c.index.result.now refl c.requires.known c.index.ensures in
    let found = ap found_in at ∙ sym c.whereabouts.ensures
    ∙ ap (option_map (λ (place : ℕ × ObjectId). (place.0, place.1.0))) c.in-Some.is in
    let below = lane_below (stores_of m home_of store.ends.items) c.in-Some.lane c.args.o.0
    (c.requires.whole.apart.there c.args.o.0 c.in-Some.lane _ found) in
    let count = length-map store.ends.items (comes_to m home_of) in
    let logged = c.requires.logged in
    record {
      whole = c.requires.whole;
      known = omega (arith, below, count);
      logged = omega (arith, below, count, logged);
    }

pub returns-in-None-clause-home : goal.returns-in-None-clause-home
returns-in-None-clause-home g c =
    let store = c.args.store.now in
    let at = slice_get_read store.objects.items (length store.objects.items) c.args.o.0
    c.index.result.now refl c.requires.known c.index.ensures in
    ap found_in at ∙ sym c.whereabouts.ensures
    ∙ ap (option_map (λ (place : ℕ × ObjectId). (place.0, place.1.0))) c.in-None.is

pub returns-in-Some-clause-continues : goal.returns-in-Some-clause-continues
returns-in-Some-clause-continues g c =
    on_ok_weaker c.bring_home.result (λ home. home.continues) c.bring_home.ensures

pub returns-in-Some-clause-home : goal.returns-in-Some-clause-home
returns-in-Some-clause-home g c =
    let m = g.C.LocalClass.local_meaning in
    let home_of = g.W.LaneWorker.home_of in
    let store = c.args.store.now in
    let new = c.bring_home.new.store in
    let at = slice_get_read store.objects.items (length store.objects.items) c.args.o.0
    c.index.result.now refl c.requires.known c.index.ensures in
    let found = ap found_in at ∙ sym c.whereabouts.ensures
    ∙ ap (option_map (λ (place : ℕ × ObjectId). (place.0, place.1.0))) c.in-Some.is in
    on_ok_weaker c.bring_home.result
    (λ home. home_from m home_of store.objects.items new.objects.items new.ends.items
    c.in-Some.lane _ c.args.o.0 (found_at new.objects.items c.args.o.0)
    home.continues.whole.apart home.idle home.found found refl)
    c.bring_home.ensures

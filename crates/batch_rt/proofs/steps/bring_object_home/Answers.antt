use Rattle.std.proofs.Common.{refl, length, sym, ap, ◌∙◌, arith}
use Rattle.std.proofs.lemmas.Option.{slice_get_read}
use Rattle.batch_rt.specs.Stores.{found_in, found_at}
use Rattle.batch_rt.proofs.IdleLemmas.{lane_below, home_from}
use Rattle.batch_rt.proofs.CallLemmas.{on_ok3}
use Rattle.batch_rt.proofs.steps.bring_object_home.Goals as goal

pub bring_home-requires : goal.bring_home-requires
bring_home-requires g c =
    let store = c.args.store.now in
    let at = slice_get_read store.objects.items (length store.objects.items) c.args.o.0
    c.index.result.now refl c.requires.known c.index.ensures in
    let below = lane_below store.lanes.items c.in-Some.lane c.in-Some.field-0-1 c.args.o.0
    (c.requires.whole.there c.args.o.0 c.in-Some.lane c.in-Some.field-0-1
    (ap found_in at ∙ sym c.whereabouts.ensures ∙ c.in-Some.is)) in
    let logged = c.requires.logged in
    record { whole = c.requires.whole; known = below; logged = omega (arith, below, logged) }

pub returns-in-None-clause-home : goal.returns-in-None-clause-home
returns-in-None-clause-home g c =
    let store = c.args.store.now in
    let at = slice_get_read store.objects.items (length store.objects.items) c.args.o.0
    c.index.result.now refl c.requires.known c.index.ensures in
    ap found_in at ∙ sym c.whereabouts.ensures ∙ c.in-None.is

pub returns-in-Some-clause-home : goal.returns-in-Some-clause-home
returns-in-Some-clause-home g c =
    let store = c.args.store.now in
    let new = c.bring_home.new.store in
    let at = slice_get_read store.objects.items (length store.objects.items) c.args.o.0
    c.index.result.now refl c.requires.known c.index.ensures in
    on_ok3 c.bring_home.result c.bring_home.ensures.continues c.bring_home.ensures.idle
    c.bring_home.ensures.found
    (λ continues idle found. home_from store.objects.items new.objects.items new.lanes.items
    c.in-Some.lane c.in-Some.field-0-1 c.args.o.0 (found_at new.objects.items c.args.o.0)
    continues.whole idle found
    (ap found_in at ∙ sym c.whereabouts.ensures ∙ c.in-Some.is) refl)

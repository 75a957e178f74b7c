use Rattle.std.proofs.Common.{◌≡◌, ◌+◌, ◌-◌, ◌<◌, length, refl, subst, arith}
use Rattle.std.proofs.lemmas.Option.{slice_get_read}
use Rattle.legal_merges.proofs.FirstLemmas.{AreFirsts, firsts-step, first_linked, first_nexts, first_begun}
use Rattle.legal_merges.proofs.turns.first_turns.Goals as goal

pub loop-place-preserved : goal.loop-place-preserved
loop-place-preserved c = λ calls table.
    let before = c.loop-place-test.true in
    let so_far = c.loop-place.invariant calls table in
    let back : c.loop-place.place ≡ (c.loop-place.place - 1) + 1 = omega arith in
    let firsts = subst (λ k. AreFirsts c.args.lanes calls c.args.steps.items
    c.loop-place.afters.items c.loop-place.nexts.items k) back so_far in
    let low = so_far.low in
    let count = table.count in
    let inside : c.loop-place.place - 1 < length c.args.steps.items = omega arith in
    let at = slice_get_read c.args.steps.items _ (c.loop-place.place - 1) c.index.result.now refl
    inside c.index.ensures in
    let known = (table.each (c.loop-place.place - 1) c.index.result.now at).known in
    let many = so_far.turn_count in
    let room : c.index.result.now.turn < length c.loop-place.nexts.items = omega arith in
    let has = slice_get_read c.loop-place.nexts.items _ c.index.result.now.turn
    c.index-in-loop-place.result.now refl room c.index-in-loop-place.ensures in
    firsts-step c.args.lanes calls c.args.steps.items table c.loop-place.afters.items
    c.loop-place.nexts.items (c.loop-place.place - 1) c.index.result.now at
    c.index-in-loop-place.result.now firsts has

pub returns : goal.returns
returns c = λ calls table.
    let ended = c.loop-place-test.false in
    let zero : c.loop-place.place ≡ 0 = omega arith in
    let firsts = subst (λ k. AreFirsts c.args.lanes calls c.args.steps.items
    c.loop-place.afters.items c.loop-place.nexts.items k) zero
    (c.loop-place.invariant calls table) in
    record {
      linked = first_linked _ calls _ _ _ table firsts;
      nexts = first_nexts _ calls _ _ _ firsts;
      begun = first_begun _ calls;
    }

use Rattle.std.proofs.Common.{rules, ◌≡◌, ◌+◌, [], ◌∷◌, map, sym, ap, ◌∙◌, subst, arith}
use Rattle.std.specs.List.{range_with_len}
use Rattle.indexer.specs.BuildCalls.{get_call, get_calls}
use Rattle.indexer.specs.Parts.{HasMade}
use Rattle.indexer.specs.Collected.{CollectsTerms}
use Rattle.indexer.proofs.PartsLemmas.{may-next, made-none, made-next, not_refused, made-one}
use Rattle.indexer.proofs.RangeLemmas.{shard_numbers-is, behind, map-range-at, map-range-more}
use Rattle.indexer.proofs.BuildingLemmas.{looked_state, is_shard}
use Rattle.indexer.proofs.BuiltLemmas.{collects-none, collects-push}
use Rattle.indexer.proofs.building.collect_terms.Goals as goal

pub loop-number-init : goal.loop-number-init
loop-number-init g c = record {
  within = omega arith;
  terms = λ parts has. rw c.new-terms.ensures.items (collects-none parts);
  made = made-none (g.D.Runtime.seen c.args.d.now);
}

pub accepted-requires : goal.accepted-requires
accepted-requires g c =
    let k = c.loop-number.number in
    let look = get_call c.args.count in
    not_refused (g.D.Runtime.seen c.loop-number.d) (g.D.Runtime.seen c.get.follows.lender-at-none)
    (look k) _ c.get.follows.holds-at-none.1
    (may-next (g.D.Runtime.seen c.args.d.now) (g.D.Runtime.seen c.loop-number.d)
    (get_calls c.args.count) (map look (range_with_len 0 k)) (look k ∷ [])
    (map look (behind k 16))
    (ap (map look) shard_numbers-is ∙ map-range-at look k 16 c.loop-number-test.true)
    c.requires.calls c.loop-number.invariant.made)

pub loop-number-preserved : goal.loop-number-preserved
loop-number-preserved g c =
    let k = c.loop-number.number in
    let look = get_call c.args.count in
    let at = c.loop-number.invariant in
    let within = c.loop-number-test.true in
    record {
      within = search rules;
      terms = λ parts has.
          collects-push parts k c.loop-number.terms.items c.push_item.new.terms.items
          (at.terms parts has)
          (c.in_ok-push_item.ensures (parts k) (is_shard (g.D.Runtime.seen c.args.d.now).state
          (g.D.Runtime.seen c.loop-number.d).state c.args.count k parts c.in_ok-item.item.now
          (looked_state (g.D.Runtime.seen c.args.d.now) (g.D.Runtime.seen c.loop-number.d)
          (get_calls c.args.count) c.args.count (range_with_len 0 k) c.requires.calls at.made)
          within has (rw c.in_ok-item.ensures at c.get.ensures.value)));
      made = made-next (g.D.Runtime.seen c.args.d.now) (g.D.Runtime.seen c.loop-number.d)
          (g.D.Runtime.seen c.get.follows.lender-at-none) (map look (range_with_len 0 (k + 1)))
          (map look (range_with_len 0 k)) (look k ∷ []) (map-range-more look k) at.made
          (made-one (g.D.Runtime.seen c.loop-number.d)
          (g.D.Runtime.seen c.get.follows.lender-at-none) (look k) _
          c.get.follows.holds-at-none.1 _ c.in_ok-item.ensures);
    }

pub returns-clause-terms : goal.returns-clause-terms
returns-clause-terms g c = λ parts has.
    let all : c.loop-number.number ≡ 16 =
    omega (arith, c.loop-number.invariant.within, c.loop-number-test.false) in
    subst (λ n. CollectsTerms parts n c.loop-number.terms.items) all
    (c.loop-number.invariant.terms parts has)

pub returns-clause-made : goal.returns-clause-made
returns-clause-made g c =
    let look = get_call c.args.count in
    let all : c.loop-number.number ≡ 16 =
    omega (arith, c.loop-number.invariant.within, c.loop-number-test.false) in
    subst (HasMade (g.D.Runtime.seen c.args.d.now) (g.D.Runtime.seen c.loop-number.d))
    (ap (λ n. map look (range_with_len 0 n)) all ∙ ap (map look) (sym shard_numbers-is))
    c.loop-number.invariant.made

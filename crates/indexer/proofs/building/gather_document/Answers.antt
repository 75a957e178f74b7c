use Rattle.std.proofs.Common.{rules, ◌≡◌, ◌+◌, [], ◌∷◌, map, sym, ap, ◌∙◌, subst, arith}
use Rattle.std.specs.List.{range_with_len}
use Rattle.indexer.specs.BuildCalls.{gather_call, gather_document_calls}
use Rattle.indexer.specs.Parts.{HasMade}
use Rattle.indexer.proofs.PartsLemmas.{may-next, made-none, made-next, not_refused, made-one}
use Rattle.indexer.proofs.RangeLemmas.{shard_numbers-is, behind, map-range-at, map-range-more}
use Rattle.indexer.proofs.building.gather_document.Goals as goal

pub loop-number-init : goal.loop-number-init
loop-number-init g c = record {
  within = omega arith;
  made = made-none (g.D.Runtime.seen c.args.d.now);
}

pub accepted-requires : goal.accepted-requires
accepted-requires g c =
    let k = c.loop-number.number in
    let gather = gather_call c.args.count c.args.place in
    not_refused (g.D.Runtime.seen c.loop-number.d) (g.D.Runtime.seen c.delegate.new.self)
    (gather k) _ c.delegate.ensures.follows
    (may-next (g.D.Runtime.seen c.args.d.now) (g.D.Runtime.seen c.loop-number.d)
    (gather_document_calls c.args.count c.args.place) (map gather (range_with_len 0 k))
    (gather k ∷ []) (map gather (behind k 16))
    (ap (map gather) shard_numbers-is ∙ map-range-at gather k 16 c.loop-number-test.true)
    c.requires.calls c.loop-number.invariant.made)

pub loop-number-preserved : goal.loop-number-preserved
loop-number-preserved g c =
    let k = c.loop-number.number in
    let gather = gather_call c.args.count c.args.place in
    record {
      within = search rules;
      made = made-next (g.D.Runtime.seen c.args.d.now) (g.D.Runtime.seen c.loop-number.d)
          (g.D.Runtime.seen c.delegate.new.self) (map gather (range_with_len 0 (k + 1)))
          (map gather (range_with_len 0 k)) (gather k ∷ []) (map-range-more gather k)
          c.loop-number.invariant.made
          (made-one (g.D.Runtime.seen c.loop-number.d) (g.D.Runtime.seen c.delegate.new.self)
          (gather k) _ c.delegate.ensures.follows _ c.in_ok-accepted.ensures);
    }

pub returns : goal.returns
returns g c =
    let gather = gather_call c.args.count c.args.place in
    let all : c.loop-number.number ≡ 16 =
    omega (arith, c.loop-number.invariant.within, c.loop-number-test.false) in
    subst (HasMade (g.D.Runtime.seen c.args.d.now) (g.D.Runtime.seen c.loop-number.d))
    (ap (λ n. map gather (range_with_len 0 n)) all ∙ ap (map gather) (sym shard_numbers-is))
    c.loop-number.invariant.made

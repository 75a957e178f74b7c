use Rattle.std.proofs.Common.{rules, ◌≡◌, ◌+◌, [], ◌∷◌, ◌++◌, map, sym, ap, ◌∙◌, append_assoc, arith}
use Rattle.std.specs.List.{range_with_len}
use Rattle.execution_definitions.specs.declared.call.Call.TheVariants as call
use Rattle.indexer.specs.BuildCalls.{split_call, split_calls}
use Rattle.indexer.proofs.PartsLemmas.{may-front, may-next, made-next, not_refused, made-one}
use Rattle.indexer.proofs.PartsLemmas.{made-on-ok}
use Rattle.indexer.proofs.RangeLemmas.{behind, map-range-at, map-range-more}
use Rattle.indexer.proofs.building.split_documents.Goals as goal

pub accepted-requires : goal.accepted-requires
accepted-requires g c =
    not_refused (g.D.Runtime.seen c.args.d.now) (g.D.Runtime.seen c.begin.new.self) call.Begin _
    c.begin.ensures.follows
    (may-front (g.D.Runtime.seen c.args.d.now) (call.Begin ∷ [])
    (map split_call (range_with_len 0 c.args.count) ++ call.End ∷ []) c.requires.calls)

pub loop-number-init : goal.loop-number-init
loop-number-init g c = record {
  within = omega arith;
  made = made-one (g.D.Runtime.seen c.args.d.now) (g.D.Runtime.seen c.begin.new.self) call.Begin _
      c.begin.ensures.follows _ c.in_ok-accepted.ensures;
}

pub accepted-requires-in-loop-number : goal.accepted-requires-in-loop-number
accepted-requires-in-loop-number g c =
    let k = c.loop-number.number in
    let n = c.args.count in
    let rest = map split_call (behind k n) in
    let all : split_calls n ≡ (call.Begin ∷ map split_call (range_with_len 0 k))
    ++ (split_call k ∷ rest ++ call.End ∷ []) =
    ap (λ calls. call.Begin ∷ calls ++ call.End ∷ [])
    (map-range-at split_call k n c.loop-number-test.true)
    ∙ ap (λ calls. call.Begin ∷ calls)
    (append_assoc (map split_call (range_with_len 0 k)) (split_call k ∷ rest) (call.End ∷ [])) in
    not_refused (g.D.Runtime.seen c.loop-number.d) (g.D.Runtime.seen c.delegate.new.self)
    (split_call k) _ c.delegate.ensures.follows
    (may-next (g.D.Runtime.seen c.args.d.now) (g.D.Runtime.seen c.loop-number.d) (split_calls n)
    (call.Begin ∷ map split_call (range_with_len 0 k)) (split_call k ∷ []) (rest ++ call.End ∷ [])
    all c.requires.calls c.loop-number.invariant.made)

pub loop-number-preserved : goal.loop-number-preserved
loop-number-preserved g c =
    let k = c.loop-number.number in
    record {
      within = search rules;
      made = made-next (g.D.Runtime.seen c.args.d.now) (g.D.Runtime.seen c.loop-number.d)
          (g.D.Runtime.seen c.delegate.new.self)
          (call.Begin ∷ map split_call (range_with_len 0 (k + 1)))
          (call.Begin ∷ map split_call (range_with_len 0 k)) (split_call k ∷ [])
          (ap (λ calls. call.Begin ∷ calls) (map-range-more split_call k))
          c.loop-number.invariant.made
          (made-one (g.D.Runtime.seen c.loop-number.d) (g.D.Runtime.seen c.delegate.new.self)
          (split_call k) _ c.delegate.ensures.follows _ c.in_ok-accepted-2.ensures);
    }

pub accepted-requires-2 : goal.accepted-requires-2
accepted-requires-2 g c =
    let k = c.loop-number.number in
    let all : k ≡ c.args.count =
    omega (arith, c.loop-number.invariant.within, c.loop-number-test.false) in
    not_refused (g.D.Runtime.seen c.loop-number.d) (g.D.Runtime.seen c.end.new.self) call.End _
    c.end.ensures.follows
    (may-next (g.D.Runtime.seen c.args.d.now) (g.D.Runtime.seen c.loop-number.d)
    (split_calls c.args.count) (call.Begin ∷ map split_call (range_with_len 0 k)) (call.End ∷ [])
    [] (ap split_calls (sym all)) c.requires.calls c.loop-number.invariant.made)

pub returns : goal.returns
returns g c =
    let k = c.loop-number.number in
    let all : k ≡ c.args.count =
    omega (arith, c.loop-number.invariant.within, c.loop-number-test.false) in
    made-on-ok (g.D.Runtime.seen c.loop-number.d) (g.D.Runtime.seen c.end.new.self) call.End _
    c.end.ensures.follows c.accepted-2.result _ c.accepted-2.ensures
    (made-next (g.D.Runtime.seen c.args.d.now) (g.D.Runtime.seen c.loop-number.d)
    (g.D.Runtime.seen c.end.new.self) (split_calls c.args.count)
    (call.Begin ∷ map split_call (range_with_len 0 k)) (call.End ∷ []) (ap split_calls (sym all))
    c.loop-number.invariant.made)

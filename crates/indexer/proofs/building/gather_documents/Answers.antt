use Rattle.std.proofs.Common.{rules, ◌≡◌, ◌+◌, [], ◌∷◌, ◌++◌, sym, ap, ◌∙◌, append_assoc, arith}
use Rattle.std.specs.List.{flat_map, range_with_len}
use Rattle.execution_definitions.specs.declared.call.Call.TheVariants as call
use Rattle.indexer.specs.BuildCalls.{gather_document_calls, gather_calls}
use Rattle.indexer.proofs.PartsLemmas.{may-front, may-next, made-next, not_refused, made-one}
use Rattle.indexer.proofs.PartsLemmas.{made-on-ok}
use Rattle.indexer.proofs.RangeLemmas.{behind, flat_map-range-at, flat_map-range-more}
use Rattle.indexer.proofs.building.gather_documents.Goals as goal

pub accepted-requires : goal.accepted-requires
accepted-requires g c =
    not_refused (g.D.Runtime.seen c.args.d.now) (g.D.Runtime.seen c.begin.new.self) call.Begin _
    c.begin.ensures.follows
    (may-front (g.D.Runtime.seen c.args.d.now) (call.Begin ∷ [])
    (flat_map (gather_document_calls c.args.count) (range_with_len 0 c.args.count)
    ++ call.End ∷ []) c.requires.calls)

pub loop-place-init : goal.loop-place-init
loop-place-init g c = record {
  within = omega arith;
  made = made-one (g.D.Runtime.seen c.args.d.now) (g.D.Runtime.seen c.begin.new.self) call.Begin _
      c.begin.ensures.follows _ c.in_ok-accepted.ensures;
}

pub gather_document-requires-clause-calls : goal.gather_document-requires-clause-calls
gather_document-requires-clause-calls g c = λ κs lives.
    let k = c.loop-place.place in
    let n = c.args.count in
    let gather = gather_document_calls n in
    let rest = flat_map gather (behind k n) in
    let all : gather_calls n ≡ (call.Begin ∷ flat_map gather (range_with_len 0 k))
    ++ (gather k ++ (rest ++ call.End ∷ [])) =
    ap (λ calls. call.Begin ∷ calls ++ call.End ∷ [])
    (flat_map-range-at gather k n c.loop-place-test.true)
    ∙ ap (λ calls. call.Begin ∷ calls)
    (append_assoc (flat_map gather (range_with_len 0 k)) (gather k ++ rest) (call.End ∷ [])
    ∙ ap (λ calls. flat_map gather (range_with_len 0 k) ++ calls)
    (append_assoc (gather k) rest (call.End ∷ []))) in
    may-next (g.D.Runtime.seen c.args.d.now) (g.D.Runtime.seen c.loop-place.d) (gather_calls n)
    (call.Begin ∷ flat_map gather (range_with_len 0 k)) (gather k) (rest ++ call.End ∷ []) all
    c.requires.calls c.loop-place.invariant.made

pub loop-place-preserved : goal.loop-place-preserved
loop-place-preserved g c =
    let k = c.loop-place.place in
    let gather = gather_document_calls c.args.count in
    record {
      within = search rules;
      made = made-next (g.D.Runtime.seen c.args.d.now) (g.D.Runtime.seen c.loop-place.d)
          (g.D.Runtime.seen c.gather_document.new.d)
          (call.Begin ∷ flat_map gather (range_with_len 0 (k + 1)))
          (call.Begin ∷ flat_map gather (range_with_len 0 k)) (gather k)
          (ap (λ calls. call.Begin ∷ calls) (flat_map-range-more gather k))
          c.loop-place.invariant.made c.in_ok-gather_document.ensures;
    }

pub accepted-requires-2 : goal.accepted-requires-2
accepted-requires-2 g c =
    let k = c.loop-place.place in
    let n = c.args.count in
    let all : k ≡ n = omega (arith, c.loop-place.invariant.within, c.loop-place-test.false) in
    not_refused (g.D.Runtime.seen c.loop-place.d) (g.D.Runtime.seen c.end.new.self) call.End _
    c.end.ensures.follows
    (may-next (g.D.Runtime.seen c.args.d.now) (g.D.Runtime.seen c.loop-place.d) (gather_calls n)
    (call.Begin ∷ flat_map (gather_document_calls n) (range_with_len 0 k)) (call.End ∷ []) []
    (ap (λ j. call.Begin ∷ flat_map (gather_document_calls n) (range_with_len 0 j)
    ++ call.End ∷ []) (sym all)) c.requires.calls c.loop-place.invariant.made)

pub returns : goal.returns
returns g c =
    let k = c.loop-place.place in
    let n = c.args.count in
    let all : k ≡ n = omega (arith, c.loop-place.invariant.within, c.loop-place-test.false) in
    made-on-ok (g.D.Runtime.seen c.loop-place.d) (g.D.Runtime.seen c.end.new.self) call.End _
    c.end.ensures.follows c.accepted-2.result _ c.accepted-2.ensures
    (made-next (g.D.Runtime.seen c.args.d.now) (g.D.Runtime.seen c.loop-place.d)
    (g.D.Runtime.seen c.end.new.self) (gather_calls n)
    (call.Begin ∷ flat_map (gather_document_calls n) (range_with_len 0 k)) (call.End ∷ [])
    (ap (λ j. call.Begin ∷ flat_map (gather_document_calls n) (range_with_len 0 j)
    ++ call.End ∷ []) (sym all)) c.loop-place.invariant.made)

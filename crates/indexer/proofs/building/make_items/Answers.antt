use Rattle.std.proofs.Common.{rules, ◌≡◌, ℕ, ◌+◌, List, [], ◌∷◌, ◌++◌, Vec, Global, map, sym, ap, ◌∙◌}
use Rattle.std.proofs.Common.{subst, append_assoc, arith, ◌<◌, refl}
use Rattle.std.specs.List.{range_with_len}
use Rattle.std.proofs.lemmas.List.{map-append}
use Rattle.execution_definitions.specs.declared.call.Call.TheVariants as call
use Rattle.execution_definitions.specs.declared.serializer.By.TheVariants as by
use Rattle.indexer.specs.declared.item.Item.TheVariants.{Doc, Shard, Stop}
use Rattle.indexer.specs.BuildCalls.{shard_numbers, make_document, make_shard, make_calls}
use Rattle.indexer.specs.Parts.{MayMake, HasMade}
use Rattle.indexer.proofs.PartsLemmas.{may-front, may-next, made-next, not_refused, made-one}
use Rattle.indexer.proofs.RangeLemmas.{shard_numbers-is, behind, map-range-at, map-range-more}
use Rattle.indexer.proofs.BuildingLemmas.{bytes_of}
use Rattle.indexer.proofs.building.make_items.Goals as goal

pub accepted-requires : goal.accepted-requires
accepted-requires g c =
    let docs = bytes_of c.args.docs.items in
    not_refused (g.D.Runtime.seen c.args.d.now) (g.D.Runtime.seen c.make_fixed.new.self)
    (call.MakeFixed (Stop c.args.stop)) _ c.make_fixed.ensures.follows
    (may-front (g.D.Runtime.seen c.args.d.now) (call.MakeFixed (Stop c.args.stop) ∷ [])
    (map make_document docs ++ map make_shard shard_numbers) c.requires.calls)

pub loop-doc-init : goal.loop-doc-init
loop-doc-init g c = record {
  all = search rules;
  made = made-one (g.D.Runtime.seen c.args.d.now) (g.D.Runtime.seen c.make_fixed.new.self)
      (call.MakeFixed (Stop c.args.stop)) _ c.make_fixed.ensures.follows _
      c.in_ok-accepted.ensures;
}

-- the calls that make objects, where some documents are made and one is next
makes-at : (stop : List (List ℕ)) (docs yielded rest : List (Vec ℕ Global)) (doc : Vec ℕ Global)
    → docs ≡ yielded ++ doc ∷ rest
    → make_calls (bytes_of docs) stop
    ≡ (call.MakeFixed (Stop stop) ∷ map make_document (bytes_of yielded))
    ++ (make_document doc.items
    ∷ (map make_document (bytes_of rest) ++ map make_shard shard_numbers))
makes-at stop docs yielded rest doc all =
    let made = map make_document (bytes_of yielded) in
    let later = map make_document (bytes_of rest) in
    let shards = map make_shard shard_numbers in
    ap (λ calls. call.MakeFixed (Stop stop) ∷ calls)
    (ap (λ ds. map make_document (bytes_of ds) ++ shards) all
    ∙ ap (λ calls. map make_document calls ++ shards)
    (map-append (λ (d : Vec ℕ Global). d.items) yielded (doc ∷ rest))
    ∙ ap (λ calls. calls ++ shards)
    (map-append make_document (bytes_of yielded) (doc.items ∷ bytes_of rest))
    ∙ append_assoc made (make_document doc.items ∷ later) shards)

-- one document more is made
makes-more : (stop : List (List ℕ)) (yielded : List (Vec ℕ Global)) (doc : Vec ℕ Global)
    → call.MakeFixed (Stop stop) ∷ map make_document (bytes_of (yielded ++ doc ∷ []))
    ≡ (call.MakeFixed (Stop stop) ∷ map make_document (bytes_of yielded))
    ++ (make_document doc.items ∷ [])
makes-more stop yielded doc =
    ap (λ calls. call.MakeFixed (Stop stop) ∷ calls)
    (ap (map make_document) (map-append (λ (d : Vec ℕ Global). d.items) yielded (doc ∷ []))
    ∙ map-append make_document (bytes_of yielded) (doc.items ∷ []))

-- some shards are made, and one is next
shards-at : (stop documents : List (List ℕ)) (k : ℕ) → k < 16
    → make_calls documents stop
    ≡ (call.MakeFixed (Stop stop) ∷ map make_document documents
    ++ map make_shard (range_with_len 0 k))
    ++ (make_shard k ∷ map make_shard (behind k 16))
shards-at stop documents k within =
    let made = map make_document documents in
    ap (λ calls. call.MakeFixed (Stop stop) ∷ calls)
    (ap (λ shards. made ++ shards)
    (ap (map make_shard) shard_numbers-is ∙ map-range-at make_shard k 16 within)
    ∙ sym (append_assoc made (map make_shard (range_with_len 0 k))
    (make_shard k ∷ map make_shard (behind k 16))))

-- one shard more is made
shards-more : (stop documents : List (List ℕ)) (k : ℕ)
    → call.MakeFixed (Stop stop) ∷ map make_document documents
    ++ map make_shard (range_with_len 0 (k + 1))
    ≡ (call.MakeFixed (Stop stop) ∷ map make_document documents
    ++ map make_shard (range_with_len 0 k)) ++ (make_shard k ∷ [])
shards-more stop documents k =
    let made = map make_document documents in
    ap (λ calls. call.MakeFixed (Stop stop) ∷ calls)
    (ap (λ shards. made ++ shards) (map-range-more make_shard k)
    ∙ sym (append_assoc made (map make_shard (range_with_len 0 k)) (make_shard k ∷ [])))

pub accepted-requires-in-loop-doc : goal.accepted-requires-in-loop-doc
accepted-requires-in-loop-doc g c =
    let at = c.loop-doc.invariant in
    let steps = c.in-Some.ensures.steps in
    let doc = c.in-Some.doc in
    let rest = c.next.new.self.rest.items in
    let all : c.args.docs.items ≡ c.loop-doc.yielded ++ doc ∷ rest = rw (at.all, steps.0) refl in
    let stop = c.args.stop in
    let docs = bytes_of c.args.docs.items in
    let made = call.MakeFixed (Stop stop) ∷ map make_document (bytes_of c.loop-doc.yielded) in
    let later = map make_document (bytes_of rest) ++ map make_shard shard_numbers in
    let next = may-next (g.D.Runtime.seen c.args.d.now) (g.D.Runtime.seen c.loop-doc.d)
    (make_calls docs stop) made (make_document doc.items ∷ []) later
    (makes-at stop c.args.docs.items c.loop-doc.yielded rest doc all) c.requires.calls at.made in
    not_refused (g.D.Runtime.seen c.loop-doc.d) (g.D.Runtime.seen c.make.new.self)
    (call.Make (Doc c.new.result) by.Object) _ c.make.ensures.follows
    (subst (λ content. MayMake (g.D.Runtime.seen c.loop-doc.d)
    (call.Make (Doc content) by.Object ∷ [])) (sym c.new.ensures) next)

pub loop-doc-preserved : goal.loop-doc-preserved
loop-doc-preserved g c =
    let at = c.loop-doc.invariant in
    let steps = c.in-Some.ensures.steps in
    let doc = c.in-Some.doc in
    let rest = c.next.new.self.rest.items in
    let all : c.args.docs.items ≡ c.loop-doc.yielded ++ doc ∷ rest = rw (at.all, steps.0) refl in
    let one = made-one (g.D.Runtime.seen c.loop-doc.d) (g.D.Runtime.seen c.make.new.self)
    (call.Make (Doc c.new.result) by.Object) _ c.make.ensures.follows _
    c.in_ok-accepted-2.ensures in
    record {
      all = all ∙ sym (append_assoc c.loop-doc.yielded (doc ∷ []) rest);
      made = made-next (g.D.Runtime.seen c.args.d.now) (g.D.Runtime.seen c.loop-doc.d)
          (g.D.Runtime.seen c.make.new.self)
          (call.MakeFixed (Stop c.args.stop)
          ∷ map make_document (bytes_of (c.loop-doc.yielded ++ doc ∷ [])))
          (call.MakeFixed (Stop c.args.stop) ∷ map make_document (bytes_of c.loop-doc.yielded))
          (make_document doc.items ∷ []) (makes-more c.args.stop c.loop-doc.yielded doc) at.made
          (subst (λ content. HasMade (g.D.Runtime.seen c.loop-doc.d)
          (g.D.Runtime.seen c.make.new.self) (call.Make (Doc content) by.Object ∷ []))
          c.new.ensures one);
    }

pub accepted-requires-in-loop-number : goal.accepted-requires-in-loop-number
accepted-requires-in-loop-number g c =
    let k = c.loop-number.number in
    let stop = c.args.stop in
    let docs = bytes_of c.args.docs.items in
    let next = may-next (g.D.Runtime.seen c.args.d.now) (g.D.Runtime.seen c.loop-number.d)
    (make_calls docs stop)
    (call.MakeFixed (Stop stop) ∷ map make_document docs ++ map make_shard (range_with_len 0 k))
    (make_shard k ∷ []) (map make_shard (behind k 16))
    (shards-at stop docs k c.loop-number-test.true) c.requires.calls
    c.loop-number.invariant.made in
    not_refused (g.D.Runtime.seen c.loop-number.d)
    (g.D.Runtime.seen c.make-in-loop-number.new.self)
    (call.Make (Shard c.new-in-loop-number.result) by.Sequence) _
    c.make-in-loop-number.ensures.follows
    (subst (λ shard. MayMake (g.D.Runtime.seen c.loop-number.d)
    (call.Make (Shard shard) by.Sequence ∷ [])) (sym c.new-in-loop-number.ensures) next)

pub loop-number-preserved : goal.loop-number-preserved
loop-number-preserved g c =
    let k = c.loop-number.number in
    let stop = c.args.stop in
    let docs = bytes_of c.args.docs.items in
    let one = made-one (g.D.Runtime.seen c.loop-number.d)
    (g.D.Runtime.seen c.make-in-loop-number.new.self)
    (call.Make (Shard c.new-in-loop-number.result) by.Sequence) _
    c.make-in-loop-number.ensures.follows _ c.in_ok-accepted-3.ensures in
    record {
      within = search rules;
      made = made-next (g.D.Runtime.seen c.args.d.now) (g.D.Runtime.seen c.loop-number.d)
          (g.D.Runtime.seen c.make-in-loop-number.new.self)
          (call.MakeFixed (Stop stop) ∷ map make_document docs
          ++ map make_shard (range_with_len 0 (k + 1)))
          (call.MakeFixed (Stop stop) ∷ map make_document docs
          ++ map make_shard (range_with_len 0 k)) (make_shard k ∷ []) (shards-more stop docs k)
          c.loop-number.invariant.made
          (subst (λ shard. HasMade (g.D.Runtime.seen c.loop-number.d)
          (g.D.Runtime.seen c.make-in-loop-number.new.self)
          (call.Make (Shard shard) by.Sequence ∷ [])) c.new-in-loop-number.ensures one);
    }

pub returns : goal.returns
returns g c =
    let docs = bytes_of c.args.docs.items in
    let all : c.loop-number.number ≡ 16 =
    omega (arith, c.loop-number.invariant.within, c.loop-number-test.false) in
    subst (HasMade (g.D.Runtime.seen c.args.d.now) (g.D.Runtime.seen c.loop-number.d))
    (ap (λ shards. call.MakeFixed (Stop c.args.stop) ∷ map make_document docs
    ++ map make_shard shards)
    (ap (range_with_len 0) all ∙ sym shard_numbers-is)) c.loop-number.invariant.made

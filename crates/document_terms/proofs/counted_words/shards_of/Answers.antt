use Rattle.std.proofs.Common.{◌<◌, [], ◌∷◌, ◌++◌, ◌∙◌, ap, ap₂, sym, arith, length, map, take}
use Rattle.std.proofs.Common.{get_or}
use Rattle.std.proofs.lemmas.List.{take_more, map-append}
use Rattle.std.proofs.lemmas.Option.{get_or_from_slice_get}
use Rattle.document_terms.specs.Shards.{shard_of}
use Rattle.document_terms.proofs.counted_words.shards_of.Goals as goal

pub loop-number-preserved : goal.loop-number-preserved
loop-number-preserved c =
    let ts = c.args.terms.now in
    let k = c.loop-number.number in
    let within : k < length ts = omega (arith, c.len-number-end.ensures) in
    let text = get_or_from_slice_get ts k c.text.result.now [] c.text.ensures in
    c.in_ok-push.ensures.items
    ∙ ap₂ (λ xs x. xs ++ x ∷ []) c.loop-number.invariant
    (c.shard_of.ensures ∙ ap shard_of (sym text))
    ∙ sym (ap (map shard_of) (take_more ts k [] within)
    ∙ map-append shard_of (take k ts) (get_or ts k [] ∷ []))

use Rattle.std.proofs.Common.{◌<◌, [], ◌∙◌, ap, ap₂, sym, arith, length, max, take, get_or}
use Rattle.std.proofs.lemmas.List.{take_more}
use Rattle.std.proofs.lemmas.Option.{get_or_from_slice_get}
use Rattle.index_definitions.proofs.GreatestLemmas.{greatest, greatest-push}
use Rattle.index_definitions.proofs.TermsLemmas.{characters}
use Rattle.document_terms.proofs.counted_words.longest_of.Goals as goal

pub loop-number-preserved : goal.loop-number-preserved
loop-number-preserved c =
    let ts = c.args.terms.now in
    let k = c.loop-number.number in
    let within : k < length ts = omega (arith, c.len-number-end.ensures) in
    let text = get_or_from_slice_get ts k c.text.result.now [] c.text.ensures in
    c.longer-longest.ensures
    ∙ ap₂ max c.loop-number.invariant (ap characters (sym text))
    ∙ sym (ap (greatest characters 0) (take_more ts k [] within)
    ∙ greatest-push characters 0 (take k ts) (get_or ts k []))

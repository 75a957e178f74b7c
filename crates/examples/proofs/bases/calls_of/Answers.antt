use Rattle.std.proofs.Common.{rules, ◌∷◌, ◌++◌, [], map, sym, ap, ◌∙◌, append_assoc}
use Rattle.std.specs.List.{range_with_len}
use Rattle.execution_definitions.specs.declared.call.Call.TheVariants as call
use Rattle.examples.specs.declared.bases.Part.TheVariants as part
use Rattle.examples.specs.HistogramCalls.{make_block, count_call}
use Rattle.examples.proofs.RangeLemmas.{map-range-more}
use Rattle.examples.proofs.bases.calls_of.Goals as goal

pub loop-place-preserved : goal.loop-place-preserved
loop-place-preserved c =
    let k = c.loop-place.place in
    let made = call.MakeFixed (part.Spelling c.args.spelling)
    ∷ map make_block (map (λ block. block.items) c.args.blocks.items) in
    let counted = map count_call (range_with_len 0 k) in
    record {
      within = search rules;
      made = c.in_ok-push-4.ensures.items
          ∙ ap (λ calls. calls ++ count_call k ∷ []) c.loop-place.invariant.made
          ∙ append_assoc made (call.Begin ∷ counted) (count_call k ∷ [])
          ∙ ap (λ more. made ++ (call.Begin ∷ more)) (sym (map-range-more count_call k));
    }

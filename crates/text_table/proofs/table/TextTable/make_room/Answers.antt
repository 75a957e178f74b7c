use Rattle.std.proofs.Common.{◌∙◌, ap, inr, subst}
use Rattle.text_table.specs.Buckets.{IsHeldOrFull}
use Rattle.text_table.specs.Tags.{tag_of}
use Rattle.text_table.proofs.BucketsLemmas.{AreHeldBy-both, IsHeldOrFull-put}
use Rattle.text_table.proofs.LookupsLemmas.{FindsTexts-moved, ArePlacedUnless}
use Rattle.text_table.proofs.LookupsLemmas.{ArePlacedUnless-next, ArePlacedUnless-end}
use Rattle.text_table.proofs.table.TextTable.make_room.Goals as goal

pub loop-text-init : goal.loop-text-init
loop-text-init c = record {
  held = λ tag number taken holds. holds;
  placed = λ text n at. inr at;
}

-- the next entry was put
pub loop-text-preserved : goal.loop-text-preserved
loop-text-preserved c =
    let all = c.into_iter-text-iterator.result in
    let before = c.loop-text.buckets in
    let after = c.put.new.self in
    let number = c.in-Some.number.now in
    record {
      held = AreHeldBy-both _ _ _ c.loop-text.invariant.held c.put.ensures.others;
      placed = ArePlacedUnless-next c.in-Some.text.now number c.next.new.self all before after
          c.put.ensures.others c.put.ensures.still_full
          (subst (λ tag. IsHeldOrFull after tag number)
          (c.tag_of_text.ensures ∙ ap tag_of c.as_str.ensures.value)
          (IsHeldOrFull-put before after c.tag_of_text.result number c.put.result
          c.put.ensures.put c.put.ensures.full c.put.ensures.still_full))
          (subst (λ coming. ArePlacedUnless coming all before) c.in-Some.ensures.steps
          c.loop-text.invariant.placed);
    }

-- each entry was put
pub invariant_of-self : goal.invariant_of-self
invariant_of-self c =
    let overflow = c.self.inside.overflow in
    let after = c.loop-text.buckets in
    FindsTexts-moved c.self.inside.texts c.self.inside.buckets after overflow c.self.invariant
    (AreHeldBy-both _ _ _ (c.pour.ensures.put c.if-pour.true) c.loop-text.invariant.held)
    (λ text n over.
    ArePlacedUnless-end c.loop-text.text-iterator c.into_iter-text-iterator.result overflow after
    c.in-None.ensures.steps.0
    (c.into_iter-text-iterator.ensures.into_iter_gives ∙ c.iter-text-items.ensures.rest)
    c.loop-text.invariant.placed text n over.1)

use Rattle.std.proofs.Common.{◌∙◌, ap, ap₂, arith, map, refl, string_bytes, ◌++◌, [], ◌∷◌}
use Rattle.std.proofs.lemmas.Result.{err_from_is_err_and}
use Rattle.std.proofs.lemmas.Slice.{pushed}
use Rattle.text_table.specs.TextLists.{text_at}
use Rattle.text_table.proofs.TextListsLemmas.{texts_kept, AreTexts-kept, AreTexts-added, texts_added}
use Rattle.text_table.proofs.text_list.TextList.push.Goals as goal

pub invariant_of-self-in_err-push : goal.invariant_of-self-in_err-push
invariant_of-self-in_err-push c =
    rw (c.in_ok-push_str.ensures.bytes, c.in_err-push.ensures.items)
    (AreTexts-kept _ _ c.utf8.text _ c.self.invariant)

pub returns-in_err-push-clause-err : goal.returns-in_err-push-clause-err
returns-in_err-push-clause-err c =
    let failed =
    err_from_is_err_and c.from_residual-in_err-push.result
    c.from_residual-in_err-push.ensures.1 in
    rw failed.1
    (ap₂ (λ bs spans. map (text_at bs) spans)
    c.in_ok-push_str.ensures.bytes c.in_err-push.ensures.items
    ∙ texts_kept (string_bytes c.self.inside.bytes) c.args.text.now c.utf8.text _
    c.self.invariant.places
    ∙ c.self.view_is)

pub invariant_of-self-2 : goal.invariant_of-self-2
invariant_of-self-2 c =
    let bytes = string_bytes c.self.inside.bytes in
    let longer =
    pushed c.args.text.now refl c.in_ok-push_str.was c.push_str.ensures.bytes in
    rw (longer, c.in_ok-push.ensures.items)
    (AreTexts-added bytes c.args.text.now c.utf8.text _
    (omega (arith, c.in_ok-start.ensures.value)) (omega (arith, c.in_ok-end.ensures.value))
    _ c.self.invariant (omega arith))

pub returns-clause-ok : goal.returns-clause-ok
returns-clause-ok c =
    let bytes = string_bytes c.self.inside.bytes in
    let longer =
    pushed c.args.text.now refl c.in_ok-push_str.was c.push_str.ensures.bytes in
    ap₂ (λ bs spans. map (text_at bs) spans) longer c.in_ok-push.ensures.items
    ∙ texts_added bytes c.args.text.now c.utf8.text _
    (omega (arith, c.in_ok-start.ensures.value)) (omega (arith, c.in_ok-end.ensures.value))
    _ c.self.invariant
    ∙ ap (λ ts. ts ++ c.args.text.now ∷ []) c.self.view_is

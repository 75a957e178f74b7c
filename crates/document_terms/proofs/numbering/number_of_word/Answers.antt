use Rattle.std.proofs.Common.{◌≡◌, ◌+◌, ◌-◌, ◌<◌, ◌∙◌, [], ◌∷◌, ◌++◌, Bool, true, false, Some, sym}
use Rattle.std.proofs.Common.{ap, arith, length}
use Rattle.std.specs.Prelude.{MatchBool}
use Rattle.std.specs.List.{slice_get}
use Rattle.std.proofs.lemmas.Option.{slice_get_within, get_or_from_slice_get, slice_get-get_or}
use Rattle.std.proofs.lemmas.List.{get_or_push, length_push}
use Rattle.text_table.proofs.TextTablesLemmas.{slice_get-number, with_text-known, with_text-new}
use Rattle.index_definitions.specs.Terms.{has_term}
use Rattle.document_terms.proofs.numbering.number_of_word.Goals as goal

-- what a test that fails leaves
fails : (X Y : Type 0) (b : Bool) → b ≡ false → Y → MatchBool b X Y
fails X Y true is y = cc
fails X Y false is y = y

pub overflow_add-result : goal.overflow_add-result
overflow_add-result c =
    let texts = c.args.terms.now in
    let at = slice_get-number texts c.args.term.now c.in-Ok.number c.in-Ok.ensures.number in
    omega (arith, slice_get_within texts c.in-Ok.number c.args.term.now at, c.requires.few)

pub returns-in-Ok : goal.returns-in-Ok
returns-in-Ok c =
    let texts = c.args.terms.now in
    let term = c.args.term.now in
    let n = c.in-Ok.number in
    let number = c.in-Ok.ensures.number in
    let at = slice_get-number texts term n number in
    let here = get_or_from_slice_get texts n term [] at in
    let place : n + 1 - 1 ≡ n = omega arith in
    fails _ _ (has_term c.args.stop.now term)
    (ap (has_term c.args.stop.now) (sym here)
    ∙ c.requires.counted n [] (slice_get_within texts n term at))
    (omega arith, ap (slice_get texts) place ∙ at, sym (with_text-known texts term n number))

pub returns-in_ok-insert_absent-in-Err-2 : goal.returns-in_ok-insert_absent-in-Err-2
returns-in_ok-insert_absent-in-Err-2 c =
    let texts = c.args.terms.now in
    let term = c.args.term.now in
    let inserted = c.in_ok-insert_absent-in-Err-2 in
    let n = inserted.field-0 in
    let last : n + 1 - 1 ≡ length texts = omega (arith, inserted.ensures.number) in
    let within : length texts < length (texts ++ term ∷ []) =
    omega (arith, length_push texts term) in
    fails _ _ (has_term c.args.stop.now term)
    (sym c.contains.ensures.member ∙ c.if-contains.false) (
      omega arith,
      ap (slice_get c.insert_absent.new.self) last
          ∙ ap (λ ts. slice_get ts (length texts)) inserted.ensures.ok
          ∙ slice_get-get_or (texts ++ term ∷ []) (length texts) term within
          ∙ ap Some (get_or_push texts term term (length texts) (omega arith)),
      inserted.ensures.ok ∙ sym (with_text-new texts term c.in-Err-2.ensures.new_text),
    )

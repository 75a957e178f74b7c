use Rattle.std.proofs.Common.{◌≡◌, ◌+◌, ◌∙◌, Some, None, slice_get, refl, sym, ap, ap₂, subst, arith}
use Rattle.std.specs.Option.{option_map}
use Rattle.std.proofs.lemmas.Option.{slice_get_past, slice_get_read}
use Rattle.ss_top.specs.declared.status.Which.TheVariants.{Name}
use Rattle.ss_top.proofs.InputsLemmas.{slice_get-documents_from}
use Rattle.ss_top.proofs.inputs.document_at.Goals as goal

pub returns-in_err-name : goal.returns-in_err-name
returns-in_err-name c =
    let place = slice_get-documents_from 1 c.args.place c.args.names.now in
    let past : slice_get c.args.names.now c.args.place ≡ None =
    slice_get_past _ _ (rw c.as_slice.ensures at c.in_err-name.ensures.lookup.3) in
    rw c.from_residual.ensures
    (sym (place ∙ ap (λ o. option_map (λ name. (Name (1 + c.args.place), name)) o) past))

pub returns : goal.returns
returns c =
    let place = slice_get-documents_from 1 c.args.place c.args.names.now in
    let lookup = c.in_ok-name.ensures.lookup in
    let found : slice_get c.args.names.now c.args.place ≡ Some c.in_ok-name.name.now =
    subst (λ names. slice_get names c.args.place ≡ Some c.in_ok-name.name.now)
    c.as_slice.ensures
    (slice_get_read c.as_slice.result.now _ c.args.place c.in_ok-name.name.now refl lookup.3.0
    lookup.1) in
    let number : 1 + c.args.place ≡ c.args.place + 1 = omega arith in
    sym (place ∙ ap (λ o. option_map (λ name. (Name (1 + c.args.place), name)) o) found
    ∙ ap₂ (λ n name. Some (Name n, name)) number (sym c.as_str.ensures))

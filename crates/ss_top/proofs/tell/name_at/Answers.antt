use Rattle.std.proofs.Common.{◌≡◌, ◌-◌, ◌<◌, ◌≤◌, ◌∙◌, Some, None, slice_get, length, refl, sym, ap, subst}
use Rattle.std.proofs.Common.{arith}
use Rattle.std.proofs.lemmas.Option.{slice_get_past, slice_get_read}
use Rattle.ss_top.proofs.InputsLemmas.{name_of-documents_from, name_of-before}
use Rattle.ss_top.proofs.tell.name_at.Goals as goal

pub returns-in_err-place : goal.returns-in_err-place
returns-in_err-place c =
    let less : c.args.number < 1 = grind (arith, c.in_err-place.ensures) in
    rw c.from_residual.ensures (sym (name_of-before 1 c.args.number c.args.names.now less))

pub returns-in_err-get : goal.returns-in_err-get
returns-in_err-get c =
    let place = c.in_ok-place.ensures in
    let behind : length c.args.names.now ≤ c.in_ok-place.place =
    rw c.as_slice.ensures at c.in_err-get.ensures.lookup.3 in
    let past : slice_get c.args.names.now (c.args.number - 1) ≡ None =
    slice_get_past c.args.names.now (c.args.number - 1) (omega (arith, behind, place.1)) in
    rw c.from_residual-in_err-get.ensures
    (sym (name_of-documents_from 1 c.args.number c.args.names.now place.0 ∙ past))

pub returns : goal.returns
returns c =
    let place = c.in_ok-place.ensures in
    let lookup = c.in_ok-get.ensures.lookup in
    let found : slice_get c.args.names.now c.in_ok-place.place ≡ Some c.in_ok-get.field-0.now =
    subst (λ names. slice_get names c.in_ok-place.place ≡ Some c.in_ok-get.field-0.now)
    c.as_slice.ensures
    (slice_get_read c.as_slice.result.now _ c.in_ok-place.place c.in_ok-get.field-0.now refl
    lookup.3.0 lookup.1) in
    sym (name_of-documents_from 1 c.args.number c.args.names.now place.0
    ∙ ap (slice_get c.args.names.now) (sym place.1) ∙ found
    ∙ ap (λ name. Some name) (sym c.as_str.ensures))

use Rattle.std.proofs.Common.{◌≡◌, ◌∙◌, Err, Some, ap, sym, subst}
use Rattle.std.proofs.lemmas.Result.{err_from_is_err_and}
use Rattle.ss_top.specs.declared.no_text.NoText.TheVariants.{ReadFault, Limit, Text}
use Rattle.ss_top.specs.Inputs.{inputs_of}
use Rattle.ss_top.specs.Printings.{Answers}
use Rattle.ss_top.specs.Readings.{IfCalledFor, left_of}
use Rattle.ss_top.proofs.InputsLemmas.{few_replay}
use Rattle.ss_top.proofs.RunsLemmas.{Answers-failed}
use Rattle.ss_top.proofs.commands.replayed_by.Goals as goal

pub read_inputs-requires-clause-few : goal.read_inputs-requires-clause-few
read_inputs-requires-clause-few g c =
    (few_replay c.args.command.now c.args.lanes c.args.order c.requires.is).0

pub read_inputs-requires-clause-asked : goal.read_inputs-requires-clause-asked
read_inputs-requires-clause-asked g c =
    (few_replay c.args.command.now c.args.lanes c.args.order c.requires.is).1

pub returns-in_err-inputs-clause-answers : goal.returns-in_err-inputs-clause-answers
returns-in_err-inputs-clause-answers g c =
    let given = err_from_is_err_and c.from_residual.result c.from_residual.ensures.1 in
    subst (λ result. IfCalledFor (g.L.Shelf.contents c.args.shelf.now) (Some c.args.command.now)
    (λ answer. Answers answer
    (left_of (inputs_of c.args.command.now) (g.L.Shelf.left c.read_inputs.new.shelf)) result))
    (sym given.1)
    (Answers-failed (g.L.Shelf.contents c.args.shelf.now) (Some c.args.command.now)
    (left_of (inputs_of c.args.command.now) (g.L.Shelf.left c.read_inputs.new.shelf)) given.0
    (λ hit is.
    let same : c.in_err-inputs.field-0.0 ≡ Limit hit = cc in
    (c.read_inputs.ensures.limit hit (c.in_err-inputs.was ∙ ap Err same)).1)
    (λ what is.
    let same : c.in_err-inputs.field-0.0 ≡ Text what = cc in
    c.read_inputs.ensures.text what (c.in_err-inputs.was ∙ ap Err same)))

pub returns-in_err-inputs-clause-read_fault : goal.returns-in_err-inputs-clause-read_fault
returns-in_err-inputs-clause-read_fault g c =
    λ which e.
    let given = err_from_is_err_and c.from_residual.result c.from_residual.ensures.1 in
    let same : c.in_err-inputs.field-0.0 ≡ ReadFault which = cc in
    c.read_inputs.ensures.read_fault which (c.in_err-inputs.was ∙ ap Err same)

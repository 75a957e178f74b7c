use Rattle.std.proofs.Common.{◌∙◌, sym, ap, subst, None, Some, map, string_bytes}
use Rattle.std.specs.Option.{option_map, is_some}
use Rattle.command_line.specs.Options.{said_by}
use Rattle.command_line.specs.Pieces.{pieces}
use Rattle.command_line.specs.kept.Given.{given_in}
use Rattle.command_line.specs.kept.Rests.{IsSaid}
use Rattle.command_line.proofs.GivenLemmas.{said_with, said_by_given, is_right}
use Rattle.command_line.proofs.options.Said.of.Goals as goal

pub returns-in_err-options : goal.returns-in_err-options
returns-in_err-options c =
    let texts = map string_bytes c.args.words.now in
    let none =
    sym (ap (option_map given_in) (sym c.ok.ensures.value ∙ c.in_err-options.was)) ∙ c.of.ensures in
    subst (IsSaid (said_by texts)) (sym c.from_residual.ensures) (said_by_given texts None none)

pub returns : goal.returns
returns c =
    let texts = map string_bytes c.args.words.now in
    let given = given_in c.in_ok-options.options in
    let some =
    sym (ap (option_map given_in) (sym c.ok.ensures.value ∙ c.in_ok-options.was)) ∙ c.of.ensures in (
      said_by_given texts (Some given) some
          ∙ ap (λ said. Some (said_with said given)) (sym c.of-2.ensures),
      ap is_some c.of-2.ensures ∙ is_right (pieces texts None) given some,
    )

use Rattle.std.proofs.Common.{◌≡◌, ◌∙◌, sym, ap, Some, []}
use Rattle.std.specs.Option.{option_and_then}
use Rattle.command_line.specs.kept.Given.{given_in, given_behind}
use Rattle.command_line.specs.kept.Rests.{rest_pieces}
use Rattle.command_line.proofs.GivenLemmas.{given_nothing_more}
use Rattle.command_line.proofs.options.Options.of.Goals as goal

pub returns-in_default : goal.returns-in_default
returns-in_default c =
    let given = given_in (record {
      delegates = c.pieces.options.0;
      mode = c.pieces.options.1.0;
      ring = c.pieces.options.1.1.0;
      stop = c.pieces.options.1.1.1.0;
      trace = c.pieces.options.1.1.1.1.0;
      order = c.pieces.options.1.1.1.1.1.0;
    }) in
    let end : rest_pieces c.pieces.rest ≡ Some [] =
    rw c.in_default.is at c.in_ok-piece.ensures in
    sym (given_nothing_more given) ∙ sym (ap (option_and_then (given_behind given)) end)
    ∙ c.pieces.invariant

use Rattle.std.proofs.Common.{◌≡◌, None, map, string_bytes, length}
use Rattle.std.specs.Option.{option_and_then}
use Rattle.command_line.specs.Pieces.{pieces}
use Rattle.command_line.specs.kept.Given.{given_in, given_behind, nothing_given}
use Rattle.command_line.specs.kept.Rests.{rest_pieces}
use Rattle.command_line.proofs.options.Options.of.Given as goal

-- what is left, behind what was given, comes to the whole
abbrev pub invariant-pieces : goal.invariant-pieces
invariant-pieces l =
    option_and_then (given_behind (given_in (record {
      delegates = l.options.0;
      mode = l.options.1.0;
      ring = l.options.1.1.0;
      stop = l.options.1.1.1.0;
      trace = l.options.1.1.1.1.0;
      order = l.options.1.1.1.1.1.0;
    }))) (rest_pieces l.rest)
    ≡ option_and_then (given_behind nothing_given) (pieces (map string_bytes l.words) None)

abbrev pub decreases-pieces : goal.decreases-pieces
decreases-pieces l = length l.rest.words.now

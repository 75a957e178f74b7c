use Rattle.std.proofs.Common.{◌≡◌, ◌≤◌, length}
use Rattle.std.specs.Prelude.{IsSome}
use Rattle.command_line.specs.kept.Rests.{rest_pieces, words_in}
use Rattle.command_line.proofs.pieces.Rest.split_word.Given as goal

-- no word of no option stood before what is left
abbrev pub invariant-pieces : goal.invariant-pieces
invariant-pieces l = record {
  words : words_in l.rest ≡ words_in l.self;
  right : IsSome (rest_pieces l.rest);
  fewer : length l.rest.words.now ≤ length l.self.words.now;
}

abbrev pub decreases-pieces : goal.decreases-pieces
decreases-pieces l = length l.rest.words.now

use Rattle.std.proofs.Common.{◌≡◌, ◌++◌, length}
use Rattle.std.specs.Prelude.{IsSome}
use Rattle.command_line.specs.kept.Rests.{rest_pieces, words_in}
use Rattle.command_line.proofs.command.texts_of.Given as goal

-- the texts so far, and then those of what is left
abbrev pub invariant-words : goal.invariant-words
invariant-words l = record {
  whole : l.texts ++ words_in l.rest ≡ words_in l.words;
  right : IsSome (rest_pieces l.rest);
}

abbrev pub decreases-words : goal.decreases-words
decreases-words l = length l.rest.words.now

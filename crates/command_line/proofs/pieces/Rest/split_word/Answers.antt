use Rattle.std.proofs.Common.{◌∙◌, sym, ap, None, [], arith}
use Rattle.std.specs.Option.{option_map_or}
use Rattle.command_line.specs.Pieces.{words_of}
use Rattle.command_line.specs.kept.Rests.{piece_of, rest_pieces}
use Rattle.command_line.proofs.WordsLemmas.{word_first, value_first, right_behind, no_words}
use Rattle.command_line.proofs.WordsLemmas.{no_owner, some_owner}
use Rattle.command_line.proofs.pieces.Rest.split_word.Goals as goal

pub returns-then-is_none : goal.returns-then-is_none
returns-then-is_none c =
    let before = c.pieces.invariant in
    let split = rw c.in-Ok-Some.field-0-is at c.in-Ok-Some.ensures in
    let piece = c.in-Ok-Some.piece in
    let left = rest_pieces c.in-Ok-Some.others in
    let right =
    right_behind (rest_pieces c.pieces.rest) (piece_of piece) left split.0 before.right in (
      sym before.words ∙ ap (λ said. option_map_or (words_of None) said []) split.0
          ∙ word_first piece.owner piece.word.now left
          (no_owner piece.owner c.is_none.result c.is_none.ensures c.if-is_none.true) right,
      omega (arith, split.1, before.fewer),
      right,
    )

pub pieces-preserved : goal.pieces-preserved
pieces-preserved c =
    let before = c.pieces.invariant in
    let split = rw c.in-Ok-Some.field-0-is at c.in-Ok-Some.ensures in
    let piece = c.in-Ok-Some.piece in
    let left = rest_pieces c.in-Ok-Some.others in
    record {
      words = sym (ap (λ said. option_map_or (words_of None) said []) split.0
          ∙ value_first piece.owner piece.word.now left
          (some_owner piece.owner c.is_none.result c.is_none.ensures c.if-is_none.false))
          ∙ before.words;
      right = right_behind (rest_pieces c.pieces.rest) (piece_of piece) left split.0 before.right;
      fewer = omega (arith, split.1, before.fewer);
    }

pub returns-in-Ok-None : goal.returns-in-Ok-None
returns-in-Ok-None c =
    sym c.pieces.invariant.words
    ∙ no_words (rest_pieces c.pieces.rest) (rw c.in-Ok-None.field-0-is at c.in-Ok-None.ensures)

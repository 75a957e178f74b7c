use Rattle.std.proofs.Common.{◌∙◌, sym, ap, refl, None, Some, [], map, string_bytes, length}
use Rattle.command_line.specs.Pieces.{words_behind_end, and_piece}
use Rattle.command_line.proofs.PiecesLemmas.{said_nothing_behind, said_behind, said_empty_behind}
use Rattle.command_line.proofs.RestsLemmas.{behind_is, empty_word, some_word}
use Rattle.command_line.proofs.pieces.Rest.split_behind_end.Goals as goal

pub returns-in_default : goal.returns-in_default
returns-in_default c =
    behind_is c.args.self.is_behind_end (map string_bytes c.args.self.words.now) (Some [])
    c.requires (ap words_behind_end c.in_default.ensures ∙ said_nothing_behind)

pub returns-then-is_empty : goal.returns-then-is_empty
returns-then-is_empty c =
    let word = c.in-Some.word.now in
    behind_is c.args.self.is_behind_end (map string_bytes c.args.self.words.now) None
    c.requires
    (ap words_behind_end c.in-Some.ensures.0
    ∙ said_empty_behind word (map string_bytes c.in-Some.words.now)
    (empty_word (length word) c.is_empty.result c.is_empty.ensures c.if-is_empty.true))

pub returns : goal.returns
returns c =
    let word = c.in-Some.word.now in
    let texts = map string_bytes c.in-Some.words.now in
    let b = c.args.self.is_behind_end in
    let others =
    behind_is b texts (words_behind_end texts) c.requires refl in (
      behind_is b (map string_bytes c.args.self.words.now) _ c.requires
          (ap words_behind_end c.in-Some.ensures.0
          ∙ said_behind word texts
          (some_word (length word) c.is_empty.result c.is_empty.ensures c.if-is_empty.false)
          ∙ ap (and_piece (None, word)) (sym others)),
      c.in-Some.ensures.1,
    )

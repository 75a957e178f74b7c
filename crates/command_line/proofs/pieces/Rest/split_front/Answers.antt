use Rattle.std.proofs.Common.{◌∙◌, sym, ap, refl, None, Some, [], map, string_bytes, length, ◌+◌}
use Rattle.std.proofs.Common.{arith}
use Rattle.command_line.specs.Pieces.{pieces, and_piece, words_behind_end}
use Rattle.command_line.specs.kept.Rests.{said_option}
use Rattle.command_line.proofs.PiecesLemmas.{said_nothing, said_plain, said_end, is_option}
use Rattle.command_line.proofs.RestsLemmas.{front_is, split_within}
use Rattle.command_line.proofs.pieces.Rest.split_front.Goals as goal

pub returns-in_default : goal.returns-in_default
returns-in_default c =
    front_is c.args.self.is_behind_end (map string_bytes c.args.self.words.now) (Some [])
    c.requires (ap (λ texts. pieces texts None) c.in_default.ensures ∙ said_nothing)

pub returns-then-is_plain : goal.returns-then-is_plain
returns-then-is_plain c =
    let word = c.in-Some.word.now in
    let texts = map string_bytes c.in-Some.words.now in
    let b = c.args.self.is_behind_end in
    let others = front_is b texts (pieces texts None) c.requires refl in (
      front_is b (map string_bytes c.args.self.words.now) _ c.requires
          (ap (λ texts. pieces texts None) c.in-Some.ensures.0
          ∙ said_plain word texts (sym c.is_plain.ensures ∙ c.if-is_plain.true)
          ∙ ap (and_piece (None, word)) (sym others)),
      c.in-Some.ensures.1,
    )

pub returns-then-is_end : goal.returns-then-is_end
returns-then-is_end c =
    let word = c.in-Some.word.now in
    let texts = map string_bytes c.in-Some.words.now in
    split_within (words_behind_end texts) _ (length c.in-Some.words.now)
    (length c.args.self.words.now) c.split_behind_end.result
    (front_is c.args.self.is_behind_end (map string_bytes c.args.self.words.now) _ c.requires
    (ap (λ texts. pieces texts None) c.in-Some.ensures.0
    ∙ said_end word texts (sym c.is_plain.ensures ∙ c.if-is_plain.false)
    (sym c.is_end.ensures ∙ c.if-is_end.true)))
    (omega (arith, c.in-Some.ensures.1)) c.split_behind_end.ensures

pub returns : goal.returns
returns c =
    let word = c.in-Some.word.now in
    let texts = map string_bytes c.in-Some.words.now in
    split_within (said_option word texts) _ (length c.in-Some.words.now + 1)
    (length c.args.self.words.now) c.split_option.result
    (front_is c.args.self.is_behind_end (map string_bytes c.args.self.words.now) _ c.requires
    (ap (λ texts. pieces texts None) c.in-Some.ensures.0
    ∙ is_option word texts (sym c.is_plain.ensures ∙ c.if-is_plain.false)
    (sym c.is_end.ensures ∙ c.if-is_end.false)))
    (omega (arith, c.in-Some.ensures.1)) c.split_option.ensures

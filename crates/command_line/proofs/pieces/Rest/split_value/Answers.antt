use Rattle.std.proofs.Common.{◌∙◌, sym, ap, refl, None, Some, map, string_bytes}
use Rattle.command_line.specs.Pieces.{pieces, and_piece}
use Rattle.command_line.proofs.PiecesLemmas.{said_no_value, said_value, said_bad_value}
use Rattle.command_line.proofs.RestsLemmas.{front_is}
use Rattle.command_line.proofs.pieces.Rest.split_value.Goals as goal

pub returns-in_default : goal.returns-in_default
returns-in_default c =
    ap (λ texts. pieces texts (Some c.args.owner)) c.in_default.ensures
    ∙ said_no_value c.args.owner

pub returns-then-not-is_plain : goal.returns-then-not-is_plain
returns-then-not-is_plain c =
    ap (λ texts. pieces texts (Some c.args.owner)) c.in-Some.ensures.0
    ∙ said_bad_value c.in-Some.word.now (map string_bytes c.in-Some.words.now) c.args.owner
    (sym c.is_plain.ensures ∙ c.if-not-is_plain.true)

pub returns : goal.returns
returns c =
    let word = c.in-Some.word.now in
    let texts = map string_bytes c.in-Some.words.now in
    let others =
    front_is c.args.self.is_behind_end texts (pieces texts None) c.requires refl in (
      ap (λ texts. pieces texts (Some c.args.owner)) c.in-Some.ensures.0
          ∙ said_value word texts c.args.owner (sym c.is_plain.ensures ∙ c.if-not-is_plain.false)
          ∙ ap (and_piece (Some c.args.owner, word)) (sym others),
      c.in-Some.ensures.1,
    )

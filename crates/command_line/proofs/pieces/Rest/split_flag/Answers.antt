use Rattle.std.proofs.Common.{◌∙◌, sym, ap, refl, Some, None, map, string_bytes, length, ◌+◌, arith}
use Rattle.std.specs.Option.{option_map_or}
use Rattle.command_line.specs.Pieces.{pieces, and_piece}
use Rattle.command_line.specs.kept.Rests.{said_joined, said_flag}
use Rattle.command_line.proofs.RestsLemmas.{front_is, split_within}
use Rattle.command_line.proofs.pieces.Rest.split_flag.Goals as goal

pub returns-in-Some : goal.returns-in-Some
returns-in-Some c =
    let word = c.args.word.now in
    let texts = map string_bytes c.args.self.words.now in
    let others = front_is c.args.self.is_behind_end texts (pieces texts None) c.requires refl in (
      ap (λ found. option_map_or (λ owner. and_piece (Some owner, word) (pieces texts None)) found
          (said_joined word texts)) (sym c.in-Some.ensures)
          ∙ ap (and_piece (Some c.in-Some.owner, word)) (sym others),
      omega arith,
    )

pub returns-in-None : goal.returns-in-None
returns-in-None c =
    let word = c.args.word.now in
    let texts = map string_bytes c.args.self.words.now in
    let count = length c.args.self.words.now in
    split_within (said_joined word texts) (said_flag word texts) (count + 1) (count + 1)
    c.split_joined.result
    (ap (λ found. option_map_or (λ owner. and_piece (Some owner, word) (pieces texts None)) found
    (said_joined word texts)) (sym c.in-None.ensures))
    (omega arith) c.split_joined.ensures

use Rattle.std.proofs.Common.{◌∙◌, sym, ap, refl, None, map, string_bytes, arith}
use Rattle.std.specs.Option.{option_map_or}
use Rattle.command_line.specs.Pieces.{pieces, and_piece}
use Rattle.command_line.specs.kept.Rests.{piece_of}
use Rattle.command_line.proofs.RestsLemmas.{front_is}
use Rattle.command_line.proofs.pieces.Rest.split_joined.Goals as goal

pub returns-in-Some : goal.returns-in-Some
returns-in-Some c =
    let texts = map string_bytes c.args.self.words.now in
    let others =
    front_is c.args.self.is_behind_end texts (pieces texts None) c.requires refl in (
      ap (λ found. option_map_or (λ piece. and_piece piece (pieces texts None)) found None)
          (sym c.in-Some.ensures)
          ∙ ap (and_piece (piece_of c.in-Some.piece)) (sym others),
      omega arith,
    )

pub returns-in-None : goal.returns-in-None
returns-in-None c =
    let texts = map string_bytes c.args.self.words.now in
    ap (λ found. option_map_or (λ piece. and_piece piece (pieces texts None)) found None)
    (sym c.in-None.ensures)

use Rattle.std.proofs.Common.{sym, ap, Some, map, string_bytes, length, ◌+◌, arith}
use Rattle.std.specs.Option.{option_map_or}
use Rattle.command_line.specs.Pieces.{pieces}
use Rattle.command_line.specs.kept.Rests.{said_flag, said_option}
use Rattle.command_line.proofs.RestsLemmas.{split_within}
use Rattle.command_line.proofs.pieces.Rest.split_option.Goals as goal

pub returns-in-Some : goal.returns-in-Some
returns-in-Some c =
    let texts = map string_bytes c.args.self.words.now in
    let count = length c.args.self.words.now in
    split_within (pieces texts (Some c.in-Some.owner)) (said_option c.args.word.now texts) count
    (count + 1) c.split_value.result
    (ap (λ found. option_map_or (λ owner. pieces texts (Some owner)) found
    (said_flag c.args.word.now texts)) (sym c.in-Some.ensures))
    (omega arith) c.split_value.ensures

pub returns-in-None : goal.returns-in-None
returns-in-None c =
    let texts = map string_bytes c.args.self.words.now in
    let count = length c.args.self.words.now in
    split_within (said_flag c.args.word.now texts) (said_option c.args.word.now texts)
    (count + 1) (count + 1) c.split_flag.result
    (ap (λ found. option_map_or (λ owner. pieces texts (Some owner)) found
    (said_flag c.args.word.now texts)) (sym c.in-None.ensures))
    (omega arith) c.split_flag.ensures

use Rattle.std.proofs.Common.{◌∙◌, sym, ap, None, Some, length, arith}
use Rattle.std.specs.Option.{option_map}
use Rattle.command_line.specs.kept.Rests.{piece_of}
use Rattle.command_line.proofs.PiecesLemmas.{joined_at, joined_empty, joined_none}
use Rattle.command_line.proofs.RestsLemmas.{empty_word, some_word}
use Rattle.command_line.proofs.pieces.joined.Goals as goal

pub returns-in_default : goal.returns-in_default
returns-in_default c =
    sym (joined_none c.args.word.now
    (c.in_default.ensures.byte (omega arith) (λ word found is. is)))

pub returns-then-is_empty : goal.returns-then-is_empty
returns-then-is_empty c =
    let parts = c.in-Some.ensures.byte (omega arith) (λ word found is. is) in
    sym (joined_empty c.args.word.now c.in-Some.value.now parts.1
    (empty_word (length c.in-Some.value.now) c.is_empty.result c.is_empty.ensures
    c.if-is_empty.true))

pub returns-in_err-owner : goal.returns-in_err-owner
returns-in_err-owner c =
    let parts = c.in-Some.ensures.byte (omega arith) (λ word found is. is) in
    ap (option_map piece_of) c.from_residual.ensures
    ∙ sym (joined_at c.args.word.now c.in-Some.name.now c.in-Some.value.now None parts.0 parts.1
    (sym c.in_err-owner.ensures)
    (some_word (length c.in-Some.value.now) c.is_empty.result c.is_empty.ensures
    c.if-is_empty.false))

pub returns : goal.returns
returns c =
    let parts = c.in-Some.ensures.byte (omega arith) (λ word found is. is) in
    sym (joined_at c.args.word.now c.in-Some.name.now c.in-Some.value.now
    (Some c.in_ok-owner.owner) parts.0 parts.1 (sym c.in_ok-owner.ensures)
    (some_word (length c.in-Some.value.now) c.is_empty.result c.is_empty.ensures
    c.if-is_empty.false))

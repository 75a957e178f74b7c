use Rattle.std.proofs.Common.{◌∙◌, ap, arith}
use Rattle.std.proofs.lemmas.Bool.Decides.{nat_tests}
use Rattle.std.specs.Char.{is_ascii_digit}
use Rattle.std.specs.List.{list_all}
use Rattle.command_line.proofs.NumbersLemmas.{numeral-short}
use Rattle.command_line.proofs.numbers.is_numeral.Goals as goal

pub returns : goal.returns
returns c =
    c.are_digits.ensures ∙ ap (list_all is_ascii_digit) c.as_bytes.ensures.value
    ∙ numeral-short c.args.word.now
    (grind (arith, nat_tests, c.is_empty.ensures, c.if-is_empty.false)) c.if-word-gt10.false

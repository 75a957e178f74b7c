use Rattle.std.proofs.Common.{sym, ◌∙◌, ap, ap₂, arith, nat_le, cond, Some, None}
use Rattle.std.specs.Prelude.{◌&&◌}
use Rattle.std.proofs.lemmas.Str.Parse.{numerals_by_value, tells_all_ascii_digits, parse_digits}
use Rattle.command_line.proofs.NumbersLemmas.{number_in-none, number_in-value, number_in-over}
use Rattle.command_line.proofs.NumbersLemmas.{numeral-digits, over_bits, parsed_value, then_some_is}
use Rattle.command_line.proofs.numbers.number_in.Goals as goal

pub returns-then-not-is_numeral : goal.returns-then-not-is_numeral
returns-then-not-is_numeral c =
    sym (number_in-none c.args.least c.args.most c.args.word.now
    (sym c.is_numeral.ensures ∙ c.if-not-is_numeral.true))

pub returns-in_err-number : goal.returns-in_err-number
returns-in_err-number c =
    let numeral = sym c.is_numeral.ensures ∙ c.if-not-is_numeral.false in
    let digits = numeral-digits c.args.word.now numeral in
    let parsed =
    parse_digits (numerals_by_value _ tells_all_ascii_digits) 32 c.args.word.now c.parse.result
    c.parse.ensures.value.0 digits.1 in
    let over =
    over_bits c.parse.result _ _ c.args.most (sym c.in_err-number.ensures.variant) parsed digits.0
    (omega (arith, c.ranges.most.fits)) in
    c.from_residual.ensures
    ∙ sym (number_in-over c.args.least c.args.most c.args.word.now numeral over)

pub returns : goal.returns
returns c =
    let numeral = sym c.is_numeral.ensures ∙ c.if-not-is_numeral.false in
    let digits = numeral-digits c.args.word.now numeral in
    let parsed =
    parse_digits (numerals_by_value _ tells_all_ascii_digits) 32 c.args.word.now c.parse.result
    c.parse.ensures.value.0 digits.1 in
    let value =
    parsed_value c.parse.result _ _ c.in_ok-number.number
    (sym c.ok.ensures.value ∙ c.in_ok-number.was) parsed in
    let tested =
    c.is_within.ensures ∙ ap (λ n. nat_le c.args.least n && nat_le n c.args.most) value in
    c.then_some.ensures ∙ then_some_is c.is_within.result c.in_ok-number.number
    ∙ ap₂ (λ b n. cond b (Some n) None) tested value
    ∙ sym (number_in-value c.args.least c.args.most c.args.word.now numeral)

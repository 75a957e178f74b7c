use Rattle.std.proofs.Common.{◌≡◌, get_or, true, sym, ◌∙◌, arith}
use Rattle.std.specs.Char.{is_ascii_digit}
use Rattle.std.proofs.lemmas.Int.Digits.{digits_value_more}
use Rattle.script_lang.proofs.spellings.TokensLemmas.{no_digits_at, digits_at, digit_value_is}
use Rattle.script_lang.proofs.spellings.TokensLemmas.{grown, no_value, over_limit}
use Rattle.script_lang.proofs.tokens.value_within.Goals as goal

pub returns-then-not-is_ascii_digit : goal.returns-then-not-is_ascii_digit
returns-then-not-is_ascii_digit c =
    let word = c.args.word.now in
    sym (no_value c.args.most c.args.limit word
    (no_digits_at word c.loop-byte.byte-index (omega arith) (cc)))

pub returns-in_err-value : goal.returns-in_err-value
returns-in_err-value c =
    let word = c.args.word.now in
    let i = c.loop-byte.byte-index in
    let digit : is_ascii_digit (get_or word i 0) ≡ true = cc in
    let grows = grown word i c.loop-byte.value (omega arith) (cc) digit in
    c.from_residual.ensures
    ∙ sym (over_limit c.args.most c.args.limit word
    (omega (arith, grows, c.in_err-value.ensures)))

pub loop-byte-preserved : goal.loop-byte-preserved
loop-byte-preserved c =
    let word = c.args.word.now in
    let i = c.loop-byte.byte-index in
    let digit : is_ascii_digit (get_or word i 0) ≡ true = cc in
    record {
      digits = digits_at word i (omega arith) c.loop-byte.invariant.digits digit;
      value = omega (
        arith,
        digits_value_more 10 word i (omega arith),
        digit_value_is (get_or word i 0) digit,
        c.loop-byte.invariant.value,
        c.in_ok-value.ensures,
      );
    }

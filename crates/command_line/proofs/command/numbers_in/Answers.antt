use Rattle.std.proofs.Common.{◌∙◌, sym, ap, Some, arith, ◌-◌, ◌^◌}
use Rattle.command_line.specs.CommandLine.{all_numbers}
use Rattle.command_line.specs.Numbers.{number_in}
use Rattle.command_line.specs.kept.Rests.{words_in}
use Rattle.command_line.proofs.NumbersLemmas.{number_in-within}
use Rattle.command_line.proofs.WordsLemmas.{numbers_said}
use Rattle.command_line.proofs.command.numbers_in.Goals as goal

pub returns-in_err-number_in-clause-numbers : goal.returns-in_err-number_in-clause-numbers
returns-in_err-number_in-clause-numbers c =
    let docs = c.in_ok-docs.docs.now in
    let words = c.in_ok-words.words.now in
    let seed = c.in_ok-words.seed.now in
    let whole =
    numbers_said (words_in c.args.words) docs (words_in c.in_ok-docs.others) words seed
    c.in_ok-docs.ensures.0 c.in_ok-words.ensures in
    c.from_residual-in_err-number_in.ensures
    ∙ sym (whole
    ∙ ap (λ n. all_numbers n (number_in 0 (2 ^ 32 - 1) words) (number_in 0 (2 ^ 31 - 1) seed))
    (sym c.in_err-number_in.ensures))

pub returns-in_err-number_in-2-clause-numbers : goal.returns-in_err-number_in-2-clause-numbers
returns-in_err-number_in-2-clause-numbers c =
    let docs = c.in_ok-docs.docs.now in
    let words = c.in_ok-words.words.now in
    let seed = c.in_ok-words.seed.now in
    let whole =
    numbers_said (words_in c.args.words) docs (words_in c.in_ok-docs.others) words seed
    c.in_ok-docs.ensures.0 c.in_ok-words.ensures in
    c.from_residual-in_err-number_in-2.ensures
    ∙ sym (whole
    ∙ ap (λ n. all_numbers n (number_in 0 (2 ^ 32 - 1) words) (number_in 0 (2 ^ 31 - 1) seed))
    (sym c.in_ok-number_in.ensures)
    ∙ ap (λ n. all_numbers (Some c.in_ok-number_in.field-0) n (number_in 0 (2 ^ 31 - 1) seed))
    (sym c.in_err-number_in-2.ensures))

pub returns-in_err-number_in-3-clause-numbers : goal.returns-in_err-number_in-3-clause-numbers
returns-in_err-number_in-3-clause-numbers c =
    let docs = c.in_ok-docs.docs.now in
    let words = c.in_ok-words.words.now in
    let seed = c.in_ok-words.seed.now in
    let whole =
    numbers_said (words_in c.args.words) docs (words_in c.in_ok-docs.others) words seed
    c.in_ok-docs.ensures.0 c.in_ok-words.ensures in
    c.from_residual-in_err-number_in-3.ensures
    ∙ sym (whole
    ∙ ap (λ n. all_numbers n (number_in 0 (2 ^ 32 - 1) words) (number_in 0 (2 ^ 31 - 1) seed))
    (sym c.in_ok-number_in.ensures)
    ∙ ap (λ n. all_numbers (Some c.in_ok-number_in.field-0) n (number_in 0 (2 ^ 31 - 1) seed))
    (sym c.in_ok-number_in-2.ensures)
    ∙ ap (all_numbers (Some c.in_ok-number_in.field-0) (Some c.in_ok-number_in-2.field-0))
    (sym c.in_err-number_in-3.ensures))

pub returns-clause-numbers : goal.returns-clause-numbers
returns-clause-numbers c =
    let docs = c.in_ok-docs.docs.now in
    let words = c.in_ok-words.words.now in
    let seed = c.in_ok-words.seed.now in
    let whole =
    numbers_said (words_in c.args.words) docs (words_in c.in_ok-docs.others) words seed
    c.in_ok-docs.ensures.0 c.in_ok-words.ensures in
    sym (whole
    ∙ ap (λ n. all_numbers n (number_in 0 (2 ^ 32 - 1) words) (number_in 0 (2 ^ 31 - 1) seed))
    (sym c.in_ok-number_in.ensures)
    ∙ ap (λ n. all_numbers (Some c.in_ok-number_in.field-0) n (number_in 0 (2 ^ 31 - 1) seed))
    (sym c.in_ok-number_in-2.ensures)
    ∙ ap (all_numbers (Some c.in_ok-number_in.field-0) (Some c.in_ok-number_in-2.field-0))
    (sym c.in_ok-number_in-3.ensures))

pub returns-clause-within : goal.returns-clause-within
returns-clause-within c =
    let docs =
    number_in-within 1 4294967295 c.in_ok-number_in.field-0 c.in_ok-docs.docs.now
    (sym c.in_ok-number_in.ensures) in
    let seed =
    number_in-within 0 2147483647 c.in_ok-number_in-3.field-0 c.in_ok-words.seed.now
    (sym c.in_ok-number_in-3.ensures) in
    (docs.0, omega (arith, seed.1))

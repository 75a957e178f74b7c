use Rattle.std.proofs.Common.{◌≡◌, ◌∙◌, sym, ap, ◌∷◌, Some, arith}
use Rattle.std.specs.Option.{option_copied, option_and_then}
use Rattle.command_line.specs.declared.setting.Setting.TheVariants as setting
use Rattle.command_line.specs.kept.Given.{given_in, given_behind}
use Rattle.command_line.proofs.GivenLemmas.{given_word, given_delegates, too_many_delegates}
use Rattle.command_line.proofs.GivenLemmas.{given_mode, too_many_modes, given_ring, too_many_rings}
use Rattle.command_line.proofs.GivenLemmas.{given_stop, too_many_stops}
use Rattle.command_line.proofs.GivenLemmas.{given_trace, too_many_traces}
use Rattle.command_line.proofs.GivenLemmas.{given_order, too_many_orders}
use Rattle.command_line.proofs.options.Options.and.Goals as goal

pub returns-in-None : goal.returns-in-None
returns-in-None c said =
    let given = given_in c.args.self in
    let word = c.args.piece.word.now in
    given_word given word said
    ∙ ap (λ owner. given_behind given ((owner, word) ∷ said)) (sym c.in-None.is)

pub returns-in_ok-one_more-in-Some-Delegates : goal.returns-in_ok-one_more-in-Some-Delegates
returns-in_ok-one_more-in-Some-Delegates c said =
    let given = given_in c.args.self in
    let word = c.args.piece.word.now in
    let owner : c.args.piece.owner ≡ Some setting.Delegates =
    grind (arith, c.in-Some-Delegates.is, c.in-Some-Delegates.field-0-is) in
    given_delegates given word (option_copied c.in_ok-one_more-in-Some-Delegates.field-0) said
    (sym c.in_ok-one_more-in-Some-Delegates.ensures)
    ∙ ap (λ owner. given_behind given ((owner, word) ∷ said)) (sym owner)

pub returns-in_err-one_more-in-Some-Delegates : goal.returns-in_err-one_more-in-Some-Delegates
returns-in_err-one_more-in-Some-Delegates c said =
    let given = given_in c.args.self in
    let word = c.args.piece.word.now in
    let owner : c.args.piece.owner ≡ Some setting.Delegates =
    grind (arith, c.in-Some-Delegates.is, c.in-Some-Delegates.field-0-is) in
    ap (option_and_then (λ options. given_behind (given_in options) said))
    c.from_residual.ensures
    ∙ too_many_delegates given word said (sym c.in_err-one_more-in-Some-Delegates.ensures)
    ∙ ap (λ owner. given_behind given ((owner, word) ∷ said)) (sym owner)

pub returns-in_ok-one_more-in-Some-Mode : goal.returns-in_ok-one_more-in-Some-Mode
returns-in_ok-one_more-in-Some-Mode c said =
    let given = given_in c.args.self in
    let word = c.args.piece.word.now in
    let owner : c.args.piece.owner ≡ Some setting.Mode =
    grind (arith, c.in-Some-Mode.is, c.in-Some-Mode.field-0-is) in
    given_mode given word (option_copied c.in_ok-one_more-in-Some-Mode.field-0) said
    (sym c.in_ok-one_more-in-Some-Mode.ensures)
    ∙ ap (λ owner. given_behind given ((owner, word) ∷ said)) (sym owner)

pub returns-in_err-one_more-in-Some-Mode : goal.returns-in_err-one_more-in-Some-Mode
returns-in_err-one_more-in-Some-Mode c said =
    let given = given_in c.args.self in
    let word = c.args.piece.word.now in
    let owner : c.args.piece.owner ≡ Some setting.Mode =
    grind (arith, c.in-Some-Mode.is, c.in-Some-Mode.field-0-is) in
    ap (option_and_then (λ options. given_behind (given_in options) said))
    c.from_residual-in_err-one_more-in-Some-Mode.ensures
    ∙ too_many_modes given word said (sym c.in_err-one_more-in-Some-Mode.ensures)
    ∙ ap (λ owner. given_behind given ((owner, word) ∷ said)) (sym owner)

pub returns-in_ok-one_more-in-Some-Ring : goal.returns-in_ok-one_more-in-Some-Ring
returns-in_ok-one_more-in-Some-Ring c said =
    let given = given_in c.args.self in
    let word = c.args.piece.word.now in
    let owner : c.args.piece.owner ≡ Some setting.Ring =
    grind (arith, c.in-Some-Ring.is, c.in-Some-Ring.field-0-is) in
    given_ring given word (option_copied c.in_ok-one_more-in-Some-Ring.field-0) said
    (sym c.in_ok-one_more-in-Some-Ring.ensures)
    ∙ ap (λ owner. given_behind given ((owner, word) ∷ said)) (sym owner)

pub returns-in_err-one_more-in-Some-Ring : goal.returns-in_err-one_more-in-Some-Ring
returns-in_err-one_more-in-Some-Ring c said =
    let given = given_in c.args.self in
    let word = c.args.piece.word.now in
    let owner : c.args.piece.owner ≡ Some setting.Ring =
    grind (arith, c.in-Some-Ring.is, c.in-Some-Ring.field-0-is) in
    ap (option_and_then (λ options. given_behind (given_in options) said))
    c.from_residual-in_err-one_more-in-Some-Ring.ensures
    ∙ too_many_rings given word said (sym c.in_err-one_more-in-Some-Ring.ensures)
    ∙ ap (λ owner. given_behind given ((owner, word) ∷ said)) (sym owner)

pub returns-in_ok-one_more-in-Some-Stop : goal.returns-in_ok-one_more-in-Some-Stop
returns-in_ok-one_more-in-Some-Stop c said =
    let given = given_in c.args.self in
    let word = c.args.piece.word.now in
    let owner : c.args.piece.owner ≡ Some setting.Stop =
    grind (arith, c.in-Some-Stop.is, c.in-Some-Stop.field-0-is) in
    given_stop given word (option_copied c.in_ok-one_more-in-Some-Stop.field-0) said
    (sym c.in_ok-one_more-in-Some-Stop.ensures)
    ∙ ap (λ owner. given_behind given ((owner, word) ∷ said)) (sym owner)

pub returns-in_err-one_more-in-Some-Stop : goal.returns-in_err-one_more-in-Some-Stop
returns-in_err-one_more-in-Some-Stop c said =
    let given = given_in c.args.self in
    let word = c.args.piece.word.now in
    let owner : c.args.piece.owner ≡ Some setting.Stop =
    grind (arith, c.in-Some-Stop.is, c.in-Some-Stop.field-0-is) in
    ap (option_and_then (λ options. given_behind (given_in options) said))
    c.from_residual-in_err-one_more-in-Some-Stop.ensures
    ∙ too_many_stops given word said (sym c.in_err-one_more-in-Some-Stop.ensures)
    ∙ ap (λ owner. given_behind given ((owner, word) ∷ said)) (sym owner)

pub returns-in_ok-one_more-in-Some-Trace : goal.returns-in_ok-one_more-in-Some-Trace
returns-in_ok-one_more-in-Some-Trace c said =
    let given = given_in c.args.self in
    let word = c.args.piece.word.now in
    let owner : c.args.piece.owner ≡ Some setting.Trace =
    grind (arith, c.in-Some-Trace.is, c.in-Some-Trace.field-0-is) in
    given_trace given word (option_copied c.in_ok-one_more-in-Some-Trace.field-0) said
    (sym c.in_ok-one_more-in-Some-Trace.ensures)
    ∙ ap (λ owner. given_behind given ((owner, word) ∷ said)) (sym owner)

pub returns-in_err-one_more-in-Some-Trace : goal.returns-in_err-one_more-in-Some-Trace
returns-in_err-one_more-in-Some-Trace c said =
    let given = given_in c.args.self in
    let word = c.args.piece.word.now in
    let owner : c.args.piece.owner ≡ Some setting.Trace =
    grind (arith, c.in-Some-Trace.is, c.in-Some-Trace.field-0-is) in
    ap (option_and_then (λ options. given_behind (given_in options) said))
    c.from_residual-in_err-one_more-in-Some-Trace.ensures
    ∙ too_many_traces given word said (sym c.in_err-one_more-in-Some-Trace.ensures)
    ∙ ap (λ owner. given_behind given ((owner, word) ∷ said)) (sym owner)

pub returns-in_ok-one_more-in-Some-Order : goal.returns-in_ok-one_more-in-Some-Order
returns-in_ok-one_more-in-Some-Order c said =
    let given = given_in c.args.self in
    let word = c.args.piece.word.now in
    let owner : c.args.piece.owner ≡ Some setting.Order =
    grind (arith, c.in-Some-Order.is, c.in-Some-Order.field-0-is) in
    given_order given word (option_copied c.in_ok-one_more-in-Some-Order.field-0) said
    (sym c.in_ok-one_more-in-Some-Order.ensures)
    ∙ ap (λ owner. given_behind given ((owner, word) ∷ said)) (sym owner)

pub returns-in_err-one_more-in-Some-Order : goal.returns-in_err-one_more-in-Some-Order
returns-in_err-one_more-in-Some-Order c said =
    let given = given_in c.args.self in
    let word = c.args.piece.word.now in
    let owner : c.args.piece.owner ≡ Some setting.Order =
    grind (arith, c.in-Some-Order.is, c.in-Some-Order.field-0-is) in
    ap (option_and_then (λ options. given_behind (given_in options) said))
    c.from_residual-in_err-one_more-in-Some-Order.ensures
    ∙ too_many_orders given word said (sym c.in_err-one_more-in-Some-Order.ensures)
    ∙ ap (λ owner. given_behind given ((owner, word) ∷ said)) (sym owner)

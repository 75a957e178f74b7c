use Rattle.std.proofs.Common.{◌≡◌, subst, sym, ap, ◌∙◌}
use Rattle.std.specs.Prelude.{IfOk}
use Rattle.execution_definitions.specs.Meanings.{shapes_of}
use Rattle.execution_definitions.specs.Sequential.{sequential_state}
use Rattle.execution_definitions.specs.Soundness.{IsSound}
use Rattle.examples.specs.Accounts.{balances_of, balances_after, holding_meaning}
use Rattle.examples.proofs.AccountLemmas.{settle-sound, settle-left, balances_of-all}
use Rattle.examples.proofs.accounts.settle.Goals as goal

pub outcome_of-requires-clause-sound : goal.outcome_of-requires-clause-sound
outcome_of-requires-clause-sound g c κs within =
    subst (λ calls. IsSound (shapes_of holding_meaning calls)) (sym c.in_ok-calls.ensures)
    (settle-sound c.args.fees c.args.balances.now c.args.transfers.now c.requires.accounts
    c.requires.few c.requires.between)

pub returns : goal.returns
returns g c =
    let fees = c.args.fees in
    let balances = c.args.balances.now in
    let transfers = c.args.transfers.now in
    subst (λ bs. IfOk c.balances_of.result (λ settled. settled.items ≡ bs))
    (ap balances_of (c.deref.ensures.value
    ∙ c.in_ok-end.ensures.values
    ∙ ap (λ calls. (sequential_state holding_meaning calls).values) c.in_ok-calls.ensures
    ∙ ap (λ state. state.values) (settle-left fees balances transfers c.requires.between))
    ∙ balances_of-all fees (balances_after fees balances transfers))
    c.balances_of.ensures

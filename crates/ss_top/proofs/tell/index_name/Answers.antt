use Rattle.std.proofs.Common.{◌≡◌, ◌∙◌, None, sym}
use Rattle.ss_top.proofs.InputsLemmas.{name_of-stop, name_of-none}
use Rattle.ss_top.proofs.tell.index_name.Goals as goal

pub returns-in_err-as_ref-in-Stop : goal.returns-in_err-as_ref-in-Stop
returns-in_err-as_ref-in-Stop c =
    let none : c.args.stop.now ≡ None = sym c.in_err-as_ref-in-Stop.ensures.value in
    rw (c.in-Stop.is, c.from_residual.ensures)
    (sym (name_of-stop c.args.stop.now c.args.names.now ∙ none))

pub returns-in-Script : goal.returns-in-Script
returns-in-Script c =
    rw c.in-Script.is (sym (name_of-none c.args.stop.now c.args.names.now).0)

pub returns-in-Schedule : goal.returns-in-Schedule
returns-in-Schedule c =
    rw c.in-Schedule.is (sym (name_of-none c.args.stop.now c.args.names.now).1)

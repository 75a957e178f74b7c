use Rattle.std.proofs.Common.{Some}
use Rattle.ss_top.specs.Answers.{texts_held}
use Rattle.ss_top.specs.Inputs.{inputs_of}
use Rattle.ss_top.specs.Texts.{names_in}
use Rattle.ss_top.proofs.RunsLemmas.{Runs-ended, ended-no_usage, CanBreak-broken, names-broken}
use Rattle.ss_top.proofs.replaying.carry_out.Goals as goal

pub returns-clause-usage : goal.returns-clause-usage
returns-clause-usage g c =
    ended-no_usage g.K.Sink c.replayed_by-given.result c.end_with.result.status c.args.out.now
    c.end_with.new.out c.end_with.ensures.ended

pub returns-clause-runs : goal.returns-clause-runs
returns-clause-runs g c =
    Runs-ended g.L.Shelf g.K.Sink (Some c.args.command.now) c.replayed_by-given.result
    c.end_with.result.status c.args.shelf.now c.replayed_by-given.new.shelf c.args.out.now
    c.end_with.new.out c.replayed_by-given.ensures.asks c.replayed_by-given.ensures.whole c.replayed_by-given.ensures.answers
    (λ line refusal is.
    let broken = c.end_with.ensures.script line refusal is in
    CanBreak-broken (Some c.args.command.now) c.replayed_by-given.result broken.0 broken.1
    c.replayed_by-given.ensures.breaks broken.2 broken.3)
    c.replayed_by-given.ensures.read_fault c.replayed_by-given.ensures.limit c.replayed_by-given.ensures.text
    c.end_with.ensures.ended

pub returns-clause-script : goal.returns-clause-script
returns-clause-script g c =
    λ line refusal is.
    let broken = c.end_with.ensures.script line refusal is in
    names-broken (g.L.Shelf.contents c.args.shelf.now)
    (λ told. names_in (Some c.args.command.now) (texts_held told (inputs_of c.args.command.now)))
    c.replayed_by-given.result broken.0 broken.1 c.end_with.result.script c.replayed_by-given.ensures.names
    broken.2 broken.3 broken.4

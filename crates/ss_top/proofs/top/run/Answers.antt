use Rattle.std.proofs.Common.{sym, subst}
use Rattle.ss_top.specs.Runs.{Runs}
use Rattle.ss_top.proofs.ReadingsLemmas.{AsksInOrder-none}
use Rattle.ss_top.proofs.RunsLemmas.{Runs-usage, Runs-memory}
use Rattle.ss_top.proofs.top.run.Goals as goal

pub returns-in-Ok-clause-runs : goal.returns-in-Ok-clause-runs
returns-in-Ok-clause-runs g c =
    subst (λ command. Runs g.L.Shelf g.K.Sink command c.carry_out-ended.result.status
    c.args.shelf.now c.carry_out-ended.new.shelf c.args.out.now c.carry_out-ended.new.out)
    (sym c.in-Ok.ensures.ok) c.carry_out-ended.ensures.runs

pub returns-in-Err-Usage-clause-runs : goal.returns-in-Err-Usage-clause-runs
returns-in-Err-Usage-clause-runs g c =
    rw (c.command_of.ensures.usage.0 cc)
    (Runs-usage g.L.Shelf g.K.Sink c.args.shelf.now c.args.out.now)

pub returns-clause-runs : goal.returns-clause-runs
returns-clause-runs g c =
    Runs-memory g.L.Shelf g.K.Sink _ c.args.shelf.now c.args.shelf.now c.args.out.now
    (AsksInOrder-none g.L.Shelf c.args.shelf.now _)

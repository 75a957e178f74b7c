use Rattle.std.proofs.Common.{sym, subst}
use Rattle.jobs.specs.Launches.{job_of}
use Rattle.delegates.specs.Works.{HasReturned}
use Rattle.delegates.specs.Starts.{home_of}
use Rattle.delegates.proofs.WorkLemmas.{returned_home}
use Rattle.delegates.proofs.worker.take_home.Goals as goal

pub returns : goal.returns
returns g c =
    let m = g.C.Class.meaning in
    subst (HasReturned m (home_of c.args.worker)) (sym c.home_in.ensures)
    (returned_home m (job_of c.args.worker.running) c.join.result c.join.ensures)

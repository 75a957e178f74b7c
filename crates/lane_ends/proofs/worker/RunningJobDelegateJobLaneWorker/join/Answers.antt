use Rattle.std.proofs.Common.{sym, subst}
use Rattle.delegates.specs.Works.{HasReturned}
use Rattle.delegates.proofs.WorkLemmas.{returned_home}
use Rattle.jobs.specs.Launches.{job_of}
use Rattle.lane_ends.specs.Workers.{home_given}
use Rattle.lane_ends.proofs.worker.RunningJobDelegateJobLaneWorker.join.Goals as goal

pub returns : goal.returns
returns g c =
    let m = g.C.Class.meaning in
    subst (HasReturned m (home_given c.args.self)) (sym c.home_in.ensures)
    (returned_home m (job_of c.args.self) c.join.result c.join.ensures)

use Rattle.std.proofs.Common.{sym, subst}
use Rattle.jobs.specs.declared.start.Launched.TheVariants.{Back}
use Rattle.delegates.specs.Works.{HasReturned}
use Rattle.delegates.proofs.WorkLemmas.{returned_as_it_was, returned_home}
use Rattle.lane_rt.proofs.hire.HireByStarterHomeTakerRunningJobDelegateJob.start.Goals as goal

pub returns-in-Err : goal.returns-in-Err
returns-in-Err g c =
    let m = g.C.Class.meaning in
    subst (HasReturned m c.args.home) (sym c.in-Err.ensures.err)
    (returned_as_it_was m c.args.home)

pub returns-in-Back : goal.returns-in-Back
returns-in-Back g c =
    let m = g.C.Class.meaning in
    let job = c.in-Ok-make_errand.errand.job in
    subst (λ home. HasReturned m home c.home_in.result) c.in-Ok-make_errand.ensures.ok
    (subst (HasReturned m job.home) (sym c.home_in.ensures)
    (returned_home m job c.in-Back.returned
    (c.requires.means c.in-Ok-make_errand.errand (Back c.in-Back.returned) c.in-Back.ensures)))

-- When can delegates be hired?
use Rattle.execution_definitions.specs.Meanings.{Meaning}
use Rattle.jobs.specs.declared.errand.Errand.{Errand}
use Rattle.jobs.specs.declared.start.Launched.{Launched}
use Rattle.jobs.specs.Launches.{HasLaunched}
use Rattle.delegates.specs.Works.{HasWorked}
use Rattle.delegates.specs.declared.worker.DelegateJob.{DelegateJob}
use Rattle.lane_rt.specs.declared.hire.HireBy.{HireBy}

-- the starter can be given every job, and does or hands back what it is given
pub record CanHire {C G O R S : Type 0} (m : Meaning C O R)
    (takes : S → Errand (DelegateJob C G O R) → Type 0)
    (answers : S → Errand (DelegateJob C G O R) → Launched (DelegateJob C G O R) → Type 0)
    (hirer : HireBy G S) : Type 0 where
  pub can : (errand : _) → takes hirer.starter.now errand
  pub means : (errand : _) (launched : _) → answers hirer.starter.now errand launched →
      HasLaunched (λ (job done : DelegateJob C G O R). HasWorked m job.home done.home) errand.job
      launched

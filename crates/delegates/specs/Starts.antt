-- What became of a home for which a thread was wanted?
use Rattle.std.specs.Prelude.{◌≡◌}
use Rattle.jobs.specs.Launches.{job_of}
use Rattle.jobs.specs.declared.errand.Returned.{Returned}
use Rattle.jobs.specs.declared.errand.Returned.TheVariants.{Done, CalledOff}
use Rattle.execution_definitions.specs.Meanings.{Meaning}
use Rattle.delegates.specs.Works.{HasReturned}
use Rattle.delegates.specs.declared.home.Home.{Home}
use Rattle.delegates.specs.declared.worker.DelegateJob.{DelegateJob}
use Rattle.delegates.specs.declared.worker.Worker.{Worker}
use Rattle.delegates.specs.declared.worker.Started.{Started}
use Rattle.delegates.specs.declared.worker.Started.TheVariants.{Running, AtHome}

module _ {C G O R : Type 0} where
  -- the home that a worker was given
  abbrev pub home_of : Worker C G O R → Home C O R
  home_of worker = (job_of worker.running).home

  -- the home of a job that came back
  abbrev pub home_in : Returned (DelegateJob C G O R) → Home C O R
  home_in (Done job) = job.home
  home_in (CalledOff job) = job.home

  -- a worker was given this home, or it came back
  abbrev pub HasStarted : Meaning C O R → Home C O R → Started C G O R → Type 0
  HasStarted m home (Running worker) = home_of worker ≡ home
  HasStarted m home (AtHome back) = HasReturned m home back

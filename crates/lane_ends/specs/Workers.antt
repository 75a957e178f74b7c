-- What became of a home for which a delegate was wanted?
use Rattle.std.specs.Prelude.{◌≡◌}
use Rattle.jobs.specs.Launches.{job_of}
use Rattle.jobs.specs.declared.start.RunningJob.{RunningJob}
use Rattle.execution_definitions.specs.Meanings.{Meaning}
use Rattle.delegates.specs.Works.{HasReturned}
use Rattle.delegates.specs.declared.home.Home.{Home}
use Rattle.delegates.specs.declared.worker.DelegateJob.{DelegateJob}
use Rattle.lane_ends.specs.declared.lane_end.Taker.{Taker}
use Rattle.lane_ends.specs.declared.lane_end.Taker.TheVariants.{Program, Delegate}

-- the home that a delegate's thread was given
abbrev pub home_given : {C G O R : Type 0} → RunningJob (DelegateJob C G O R) → Home C O R
home_given running = (job_of running).home

module _ {C W O R : Type 0} (m : Meaning C O R) (home_of : W → Home C O R) where
  -- a delegate was given this home, or it came back
  abbrev pub HasHired : Home C O R → Taker C W O R → Type 0
  HasHired home (Program back) = HasReturned m home back
  HasHired home (Delegate worker bell) = home_of worker ≡ home

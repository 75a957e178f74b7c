-- What became of a job for which a thread was wanted?
use Rattle.std.specs.Prelude.{◌≡◌}
use Rattle.jobs.specs.declared.start.RunningJob.{RunningJob}
use Rattle.jobs.specs.declared.start.Launched.{Launched}
use Rattle.jobs.specs.declared.start.Launched.TheVariants.{Running, Back}
use Rattle.jobs.specs.Jobs.{ComesBack}

module _ {J : Type 0} where
  -- the job that a thread was given
  abbrev pub job_of : RunningJob J → J
  job_of running = running.handle.promise.0.value

  -- the job runs in a thread, or came back
  abbrev pub HasLaunched : (J → J → Type 0) → J → Launched J → Type 0
  HasLaunched gives job (Running running) = job_of running ≡ job
  HasLaunched gives job (Back returned) = ComesBack gives job returned

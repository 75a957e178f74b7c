-- What do jobs come back as?
use Rattle.std.specs.Prelude.{◌≡◌, ℕ, ◌<◌, List, length, slice_index_or}
use Rattle.jobs.specs.declared.errand.Returned.{Returned}
use Rattle.jobs.specs.declared.errand.Returned.TheVariants.{Done, CalledOff}

module _ {J : Type 0} where
  -- the job came back done, or as it was
  abbrev pub ComesBack : (J → J → Type 0) → J → Returned J → Type 0
  ComesBack gives job (Done done) = gives job done
  ComesBack gives job (CalledOff back) = back ≡ job

  -- each job came back done, in its place
  pub record EachGives (gives : J → J → Type 0) (jobs done : List J) : Type 0 where
    pub count : length done ≡ length jobs
    pub each :
        (i : ℕ) (d : J) → i < length jobs →
        gives (slice_index_or jobs i d) (slice_index_or done i d)

-- Runs and what is sent, one call more at a time.
use Rattle.std.proofs.Common.{◌≡◌, ℕ, List, [], ◌∷◌, ◌++◌, refl, append_assoc, append-nil}
use Rattle.std.specs.Prelude.{filter, option_to_list}
use Rattle.std.proofs.lemmas.List.Elements.{filter-append}
use Rattle.execution_definitions.specs.Shapes.{Shape}
use Rattle.execution_definitions.specs.Runs.{run_of, runs_after, runs, is_in_lane, sent}

runs_after-push : (before calls : List Shape) (call : Shape) →
    runs_after before (calls ++ call ∷ [])
    ≡ runs_after before calls ++ option_to_list (run_of (before ++ calls) call)
runs_after-push before [] call =
    rw (append-nil (option_to_list (run_of before call)), append-nil before) refl
runs_after-push before (first ∷ rest) call =
    rw (
      runs_after-push (before ++ first ∷ []) rest call,
      append_assoc before (first ∷ []) rest,
      append_assoc (option_to_list (run_of before first)),
    ) refl

-- one call more adds its run
pub runs-push : (calls : List Shape) (call : Shape) →
    runs (calls ++ call ∷ []) ≡ runs calls ++ option_to_list (run_of calls call)
runs-push calls call = runs_after-push [] calls call

-- one call more is sent where its set has the lane
pub sent-push : (calls : List Shape) (n lane : ℕ) (call : Shape) →
    sent (calls ++ call ∷ []) n lane ≡
    sent calls n lane ++ filter (is_in_lane n lane) (option_to_list (run_of calls call))
sent-push calls n lane call =
    rw (runs-push calls call)
    (filter-append (is_in_lane n lane) (runs calls) (option_to_list (run_of calls call)))

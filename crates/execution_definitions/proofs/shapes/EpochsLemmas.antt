-- The open epoch, one call more at a time.
use Rattle.std.proofs.Common.{◌≡◌, ◌+◌, Bool, true, false, cond, List, [], ◌∷◌, ◌++◌, refl}
use Rattle.std.specs.Prelude.{count_by, if◌then◌else◌}
use Rattle.std.proofs.Math.Bool.{or-false, or-true}
use Rattle.std.proofs.lemmas.List.Sums.{fold-append}
use Rattle.std.proofs.lemmas.List.Folds.{list_any-append}
use Rattle.execution_definitions.specs.Shapes.{Shape, begin, end, is_begin, is_end}
use Rattle.execution_definitions.specs.Epochs.{since_step, since, isolating, this_epoch}

-- one call more is one step of the fold
pub since-push : (test : Shape → Bool) (calls : List Shape) (call : Shape) →
    since test (calls ++ call ∷ []) ≡ since_step test (since test calls) call
since-push test calls call = fold-append (since_step test) [] calls (call ∷ [])

-- one call more counts one where it passes
pub count_by-push : (test : Shape → Bool) (calls : List Shape) (call : Shape) →
    count_by test (calls ++ call ∷ []) ≡ count_by test calls + cond (test call) 1 0
count_by-push test calls call =
    fold-append (λ count x. count + cond (test x) 1 0) 0 calls (call ∷ [])

-- the call neither begins nor ends an epoch
pub record IsWithin (call : Shape) : Type 0 where
  pub no_begin : is_begin call ≡ false
  pub no_end : is_end call ≡ false

-- such a call leaves an epoch open or closed
pub isolating-within : (calls : List Shape) (call : Shape) → IsWithin call →
    isolating (calls ++ call ∷ []) ≡ isolating calls
isolating-within calls call within =
    let no_begin = within.no_begin in
    let no_end = within.no_end in
    rw (
      since-push is_end calls call,
      no_end,
      list_any-append,
      no_begin,
      or-false (isolating calls),
    ) refl

-- and it is in the epoch that is open
pub this_epoch-within : (calls : List Shape) (call : Shape) → IsWithin call →
    this_epoch (calls ++ call ∷ [])
    ≡ (if isolating calls then (since is_begin calls ++ call ∷ []) else [])
this_epoch-within calls call within =
    let no_begin = within.no_begin in
    rw (isolating-within calls call within, since-push is_begin calls call, no_begin) refl

-- after a begin an epoch is open
pub isolating-begin : (calls : List Shape) → isolating (calls ++ begin ∷ []) ≡ true
isolating-begin calls = rw (since-push is_end calls begin, list_any-append)
    (or-true (isolating calls))

-- an epoch begins empty
pub this_epoch-begin : (calls : List Shape) → this_epoch (calls ++ begin ∷ []) ≡ []
this_epoch-begin calls = rw (isolating-begin calls, since-push is_begin calls begin) refl

-- after an end none is open
pub isolating-end : (calls : List Shape) → isolating (calls ++ end ∷ []) ≡ false
isolating-end calls = rw (since-push is_end calls end) refl

-- so none has calls
pub this_epoch-end : (calls : List Shape) → this_epoch (calls ++ end ∷ []) ≡ []
this_epoch-end calls = rw (isolating-end calls) refl

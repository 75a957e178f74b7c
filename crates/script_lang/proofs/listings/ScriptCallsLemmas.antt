-- The end that a script may lack.
use Rattle.std.proofs.Common.{◌≡◌, ◌<◌, ◌^◌, true, false, cond, not, None, List, [], ◌∷◌}
use Rattle.std.proofs.Common.{◌++◌, length, ap, ap₂, arith}
use Rattle.std.specs.Prelude.{nat_le}
use Rattle.std.proofs.lemmas.List.{length-map}
use Rattle.execution_definitions.specs.Shapes.{end}
use Rattle.execution_definitions.specs.Refusals.{breaks, first_of, refuse_if}
use Rattle.execution_definitions.specs.declared.refusal.Refusal.TheVariants.{NotIsolating}
use Rattle.execution_definitions.specs.declared.refusal.Refusal.TheVariants.{TooManyCalls}
use Rattle.execution_definitions.specs.declared.call.Call.TheVariants as call
use Rattle.execution_definitions.specs.Meanings.{shape_of, shapes_of}
use Rattle.script_lang.specs.Acts.{own_set}
use Rattle.script_lang.specs.ScriptCalls.{ScriptCall, ends_within_epoch, ended}
use Rattle.script_lang.specs.Acts.{script_meaning}

pub ended-open : (calls : List ScriptCall) → ends_within_epoch calls ≡ true
    → ended calls ≡ calls ++ call.End ∷ []
unfolding ended
ended-open calls is_open = ap (λ b. cond b (calls ++ call.End ∷ []) calls) is_open

pub ended-closed : (calls : List ScriptCall) → ends_within_epoch calls ≡ false
    → ended calls ≡ calls
unfolding ended
ended-closed calls is_closed = ap (λ b. cond b (calls ++ call.End ∷ []) calls) is_closed

-- it isn't refused, but behind 2^60 calls
pub missing_end-allowed : (calls : List ScriptCall) → ends_within_epoch calls ≡ true →
    length calls < 2 ^ 60 → breaks (shapes_of script_meaning calls) end ≡ None
missing_end-allowed calls is_open few =
    let fits : nat_le (2 ^ 60) (length (shapes_of script_meaning calls)) ≡ false =
    grind (arith, few, length-map calls (shape_of own_set)) in
    ap₂ (λ is_open is_full. first_of (refuse_if (not is_open) NotIsolating)
    (refuse_if is_full TooManyCalls)) is_open fits

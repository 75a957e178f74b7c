-- What a `for` over a chain has gone through. The facts of the loop come first, since they tell
-- which closures the chain holds.
use Rattle.std.proofs.Common.{◌≡◌, ◌<◌, List, map, length, get_or, Option, Some, None}
use Rattle.std.specs.Iterator.{Yields}
use Rattle.std.proofs.lemmas.Iterator.{YieldsList}
use Rattle.std.proofs.lemmas.Iterator.Consumers.{YieldsList-end, YieldsList-turn}

module _ {S A B : Type 0} {steps : S → Option A → S → Type 0} {s : S} where
  -- at the end every item was yielded
  pub yielded_all : (v : A → B) (all : List B) (xs : List A) (t : S) → Yields steps s xs t
      → (r : Option A) (u : S) → r ≡ None → steps t r u → YieldsList steps v s all
      → (map v xs ≡ all) × (length xs ≡ length all)
  yielded_all v all xs t y r u none step e = YieldsList-end e xs t y r u none step

  -- an item is that at its place
  pub yielded_next : (v : A → B) (all : List B) (xs : List A) (t : S) → Yields steps s xs t
      → (r : Option A) (u : S) (x : A) → r ≡ Some x → steps t r u → YieldsList steps v s all
      → (length xs < length all) × (v x ≡ get_or all (length xs) (v x))
  yielded_next v all xs t y r u x some step e = YieldsList-turn e xs t y r u x some step

-- The calls that were taken, and those that are left.
use Rattle.std.proofs.Common.{◌≡◌, ℕ, zero, suc, ◌+◌, ◌≤◌, Some, List, [], ◌∷◌, ◌++◌, length, take, drop, sym, ap, ◌∙◌, subst, arith, add-one}
use Rattle.std.specs.Prelude.{slice_get}
use Rattle.std.proofs.lemmas.List.{length-map, length_push}
use Rattle.execution_definitions.specs.declared.call.Call.{Call}
use Rattle.execution_definitions.specs.Meanings.{Meaning, shape_of, shapes_of}
use Rattle.partition_check.specs.Marked.{Marked}
use Rattle.partition_check.specs.Represents.{Represents}
use Rattle.schedule_core.proofs.PlaceLemmas.{IsNextAt}
use Rattle.execution_definitions.proofs.lists.ListLemmas.{take-next}

take_within : {A : Type 0} (xs : List A) (n : ℕ) → length (take n xs) ≤ length xs
take_within xs zero = omega arith
take_within [] (suc n) = omega arith
take_within (x ∷ xs) (suc n) = let rest = take_within xs n in omega (arith, rest)

module _ {C O R : Type 0} (m : Meaning C O R) (calls : List (Call C O)) where
  -- the marks stand for the calls that were taken
  abbrev pub StandsFor : Marked → Type 0
  StandsFor marked = Represents marked (shapes_of m (take marked.calls calls))

  pub taken_count : (marked : Marked) → StandsFor marked →
      marked.calls ≡ length (take marked.calls calls)
  taken_count marked stands =
      stands.call_count ∙ length-map (take marked.calls calls) (shape_of m.own)

  pub taken_within : (marked : Marked) → StandsFor marked → marked.calls ≤ length calls
  taken_within marked stands =
      let count = taken_count marked stands in
      let most = take_within calls marked.calls in omega (arith, count, most)

  module _ (old new : Marked) (one : Call C O) (stands : StandsFor old)
      (after : Represents new (shapes_of m (take old.calls calls ++ one ∷ []))) where
    -- one call more was taken
    pub count_more : new.calls ≡ old.calls + 1
    count_more =
        after.call_count ∙ length-map (take old.calls calls ++ one ∷ []) (shape_of m.own)
        ∙ length_push (take old.calls calls) one
        ∙ ap (λ n. n + 1) (sym (taken_count old stands))

    pub stands_more : slice_get calls old.calls ≡ Some one → StandsFor new
    stands_more here =
        subst (λ l. Represents new (shapes_of m l))
        (sym (ap (λ n. take n calls) count_more ∙ take-next calls old.calls one here)) after

    pub left_more : (rest : List (Call C O)) → IsNextAt calls old.calls one rest →
        rest ≡ drop new.calls calls
    left_more rest next =
        next.behind ∙ ap (λ n. drop n calls) (sym (count_more ∙ add-one old.calls))

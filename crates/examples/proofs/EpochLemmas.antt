-- Programs that make objects first, and such of one epoch: an object is made that is only read, others
-- are made, and operations on those are delegated that read the first. None of their calls is refused.
use Rattle.std.proofs.Common.{◌≡◌, ℕ, ◌+◌, ◌^◌, ◌<◌, ◌≤◌, inr, List, [], ◌∷◌, ◌++◌, length, refl, sym}
use Rattle.std.proofs.Common.{subst, arith}
use Rattle.std.specs.List.{AllByRecursion}
use Rattle.execution_definitions.specs.declared.serializer.By.{By}
use Rattle.execution_definitions.specs.Shapes.{Shape, make, make_fixed, begin, end}
use Rattle.execution_definitions.specs.Soundness.{IsSound}
use Rattle.execution_definitions.proofs.shapes.SoundnessLemmas.{IsSound-push}
use Rattle.execution_definitions.proofs.shapes.PreparedLemmas.{IsPrepared, IsApart, prepared-made}
use Rattle.execution_definitions.proofs.shapes.PreparedLemmas.{prepared-epoch, each-kept}

-- an object is made
pub record IsMake (call : Shape) : Type 0 where
  pub by : By
  pub is : call ≡ make by

prepared-first : IsPrepared 1 (make_fixed ∷ []) 1
prepared-first = record {
  sound = IsSound-push [] make_fixed refl refl;
  closed = refl;
  count = refl;
  few = omega arith;
  writable = λ o some below. absurd (omega arith);
}

steps : (made : List Shape) → AllByRecursion IsMake made
    → AllByRecursion (λ call. (list : List Shape) (k : ℕ) → k < 1048576 → IsPrepared k list k
    → IsPrepared (k + 1) (list ++ call ∷ []) (k + 1)) made
steps [] all = tt
steps (c ∷ cs) all = (
  λ list k below is.
      subst (λ call. IsPrepared (k + 1) (list ++ call ∷ []) (k + 1)) (sym all.0.is)
      (prepared-made k k list (omega arith) all.0.by below is),
  steps cs all.1,
)

-- from no call on
prepared-none : IsPrepared 0 [] 0
prepared-none = record {
  sound = refl;
  closed = refl;
  count = refl;
  few = omega arith;
  writable = λ o some below. absurd (omega arith);
}

-- nothing but objects is made
pub prepared-makes : (made : List Shape) → length made ≤ 1048576 → AllByRecursion IsMake made
    → IsPrepared (length made) made (length made)
prepared-makes made few all =
    let same : 0 + length made ≡ length made = omega arith in
    subst (λ k. IsPrepared k made k) same
    (each-kept (λ list k. IsPrepared k list k) 1048576 made [] 0 (steps made all) (omega arith)
    prepared-none)

pub prepared-objects : (n : ℕ) (made : List Shape) → length made ≡ n → n < 1048576
    → AllByRecursion IsMake made → IsPrepared (1 + n) (make_fixed ∷ made) (1 + n)
prepared-objects n made long few all =
    let same : 1 + length made ≡ 1 + n = omega (arith, long) in
    subst (λ k. IsPrepared k (make_fixed ∷ made) k) same
    (each-kept (λ list k. IsPrepared k list k) 1048576 made (make_fixed ∷ []) 1 (steps made all)
    (omega (arith, long, few)) prepared-first)

pub one_epoch-sound : (n : ℕ) (made more : List Shape) → length made ≡ n → n < 1048576
    → length more ≤ 2 ^ 59 → AllByRecursion IsMake made
    → AllByRecursion (IsApart 1 (1 + n) 0 1) more
    → IsSound (make_fixed ∷ made ++ (begin ∷ more ++ end ∷ []))
one_epoch-sound n made more long few short all each =
    (prepared-epoch (1 + n) 1 (1 + n) 0 1 (omega arith) (omega arith) (omega arith)
    (inr (omega arith)) (make_fixed ∷ made) more (1 + n) (omega (arith, few, short)) each
    (prepared-objects n made long few all)).sound

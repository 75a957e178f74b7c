-- Terms that are taken one by one, and numbered from 1.
use Rattle.std.proofs.Common.{◌≡◌, ℕ, zero, suc, ◌+◌, ◌<◌, List, [], ◌∷◌, ◌++◌, length, take, drop}
use Rattle.std.proofs.Common.{sym, ap, ◌∙◌, arith, add-one, append-nil}
use Rattle.std.specs.List.{enumerate_from}
use Rattle.std.proofs.lemmas.List.{length-take-le, take-append-drop}

-- one more item is numbered by those before it
pub enumerate_from-push :
    {X : Type 0} (n : ℕ) (xs : List X) (x : X)
    → enumerate_from n (xs ++ x ∷ []) ≡ enumerate_from n xs ++ (n + length xs, x) ∷ []
enumerate_from-push n [] x = let same : n ≡ n + 0 = omega arith in ap (λ k. (k, x) ∷ []) same
enumerate_from-push n (y ∷ ys) x =
    let same : n + 1 + length ys ≡ n + length (y ∷ ys) = omega arith in
    ap (λ es. (n, y) ∷ es)
    (enumerate_from-push (n + 1) ys x
    ∙ ap (λ k. enumerate_from (n + 1) ys ++ (k, x) ∷ []) same)

-- what is left of a list of which the first items were taken, and one more is taken
pub record TakesOne {X : Type 0} (all : List X) (taken : ℕ) (x : X) (left : List X) : Type 0 where
  pub within : taken < length all
  pub before : take (taken + 1) all ≡ take taken all ++ x ∷ []
  pub after : left ≡ drop (taken + 1) all

takes_one-suc :
    {X : Type 0} (all : List X) (taken : ℕ) (x : X) (left : List X)
    → drop taken all ≡ x ∷ left
    → (taken < length all) × (take (suc taken) all ≡ take taken all ++ x ∷ [])
    × (left ≡ drop (suc taken) all)
takes_one-suc [] zero x left is = cc
takes_one-suc [] (suc n) x left is = cc
takes_one-suc (y ∷ ys) zero x left is =
    let first : y ≡ x = cc in
    let others : left ≡ ys = cc in
    (omega arith, ap (λ z. z ∷ []) first, others)
takes_one-suc (y ∷ ys) (suc n) x left is =
    let rest = takes_one-suc ys n x left is in
    (omega (arith, rest.0), ap (λ zs. y ∷ zs) rest.1, rest.2)

pub takes_one :
    {X : Type 0} (all : List X) (taken : ℕ) (x : X) (left : List X)
    → drop taken all ≡ x ∷ left → TakesOne all taken x left
takes_one all taken x left is =
    let step = takes_one-suc all taken x left is in
    record {
      within = step.0;
      before = rw add-one step.1;
      after = rw add-one step.2;
    }

-- the terms that were taken, numbered from 1
pub enumerate_from-takes_one :
    (terms : List (List ℕ)) (taken : ℕ) (term : List ℕ) (left : List (List ℕ))
    → TakesOne terms taken term left
    → enumerate_from 1 (take (taken + 1) terms)
    ≡ enumerate_from 1 (take taken terms) ++ (taken + 1, term) ∷ []
enumerate_from-takes_one terms taken term left one =
    let number : 1 + length (take taken terms) ≡ taken + 1 =
    rw (length-take-le taken terms (omega (arith, one.within))) (omega arith) in
    ap (enumerate_from 1) one.before ∙ enumerate_from-push 1 (take taken terms) term
    ∙ ap (λ n. enumerate_from 1 (take taken terms) ++ (n, term) ∷ []) number

-- where none is left all were taken
pub take-none_left :
    {X : Type 0} (all : List X) (taken : ℕ) → drop taken all ≡ [] → take taken all ≡ all
take-none_left all taken none =
    sym (append-nil (take taken all)) ∙ ap (λ xs. take taken all ++ xs) (sym none)
    ∙ take-append-drop taken all

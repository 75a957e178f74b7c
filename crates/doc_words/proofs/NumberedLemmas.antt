-- Words that are taken one by one are numbered from 1.
use Rattle.std.proofs.Common.{◌≡◌, ℕ, ◌+◌, List, [], ◌∷◌, ◌++◌, map, take, sym, ap, ◌∙◌}
use Rattle.std.specs.List.{enumerate_from}
use Rattle.std.proofs.lemmas.List.{map-append}
use Rattle.index_definitions.proofs.NumberedLemmas.{TakesOne, enumerate_from-takes_one}

-- one word more, whose number is one more than that of those taken
pub enumerate_from-taken :
    {W : Type 0} (f : W → ℕ × List ℕ) (words more : List W) (word : W) (terms : List (List ℕ))
    (taken : ℕ) (term : List ℕ) (left : List (List ℕ))
    → more ≡ words ++ word ∷ [] → f word ≡ (taken + 1, term)
    → map f words ≡ enumerate_from 1 (take taken terms) → TakesOne terms taken term left
    → map f more ≡ enumerate_from 1 (take (taken + 1) terms)
enumerate_from-taken f words more word terms taken term left pushed is before one =
    ap (map f) pushed ∙ map-append f words (word ∷ [])
    ∙ ap (λ ws. ws ++ f word ∷ []) before
    ∙ ap (λ w. enumerate_from 1 (take taken terms) ++ w ∷ []) is
    ∙ sym (enumerate_from-takes_one terms taken term left one)

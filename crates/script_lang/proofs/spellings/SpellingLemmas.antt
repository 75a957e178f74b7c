-- A word is known by its length and its bytes.
use Rattle.std.proofs.Common.{◌≡◌, ℕ, ◌+◌, List, [], ◌∷◌, length, get_or}
use Rattle.std.proofs.Common.{refl, ap₂, arith, add-one}

-- from a place on, the word has these bytes
abbrev pub HasBytes : List ℕ → ℕ → List ℕ → Type 0
HasBytes word i [] = Unit {0}
HasBytes word i (b ∷ bs) = (get_or word i 0 ≡ b) × HasBytes word (i + 1) bs

behind : (x : ℕ) (xs : List ℕ) (i : ℕ) (bs : List ℕ)
    → HasBytes (x ∷ xs) (i + 1) bs → HasBytes xs i bs
behind x xs i [] h = tt
behind x xs i (b ∷ bs) h = (rw add-one at h.0, behind x xs (i + 1) bs h.1)

pub spelt : (word bs : List ℕ) → length word ≡ length bs → HasBytes word 0 bs → word ≡ bs
spelt [] [] same h = refl
spelt [] (b ∷ bs) same h = absurd (omega arith)
spelt (x ∷ xs) [] same h = absurd (omega arith)
spelt (x ∷ xs) (b ∷ bs) same h =
    ap₂ ◌∷◌ h.0 (spelt xs bs (omega arith) (behind x xs 0 bs h.1))

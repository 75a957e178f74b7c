-- How far bytes begin a number, the positions of a document, a document and a list.
use Rattle.std.proofs.Common.{◌≡◌, ℕ, zero, suc, ◌+◌, ◌*◌, ◌-◌, ◌<◌, ◌≤◌, ◌/◌, List, [], ◌∷◌}
use Rattle.std.proofs.Common.{◌++◌, ◌⊎◌, take, refl, sym, ap, ◌∙◌, subst, arith}
use Rattle.std.proofs.Common.{⊎_elim}
use Rattle.postings.specs.Spelling.{SpellsNumber}
use Rattle.postings.specs.Stuck.{IsNumberUpTo, AreStuck}
use Rattle.postings.proofs.SpellingLemmas.{number-some, number-not_empty}

-- ---- numbers

-- a group more
pub number-more : (b n : ℕ) (bs : List ℕ) (high : ℕ) → 128 ≤ b → b < 256 → n + 128 ≡ b + 128 * high
    → SpellsNumber bs high → SpellsNumber (b ∷ bs) n
number-more b n [] high at_least below is spells = absurd spells
number-more b n (c ∷ bs) high at_least below is spells = (at_least, below, high, is, spells)

pub take-suc : (n b : ℕ) (bs : List ℕ) → take (n + 1) (b ∷ bs) ≡ b ∷ take n bs
take-suc n b bs =
    let next : n + 1 ≡ suc n = omega arith in ap (λ k. take k (b ∷ bs)) next

-- no number in front of no bytes
pub number_stuck-none : (most : ℕ) → AreStuck (IsNumberUpTo most) [] 0
number_stuck-none most = record {
  within = omega arith;
  begins = λ some. absurd (omega (arith, some));
  ends = λ some. absurd (omega (arith, some));
  none = λ first rest same word. number-not_empty first rest word.0 word.2 (sym same);
}

-- a byte with which no number up to the limit begins
no_number : (most b : ℕ) → (b ≡ 0) ⊎ (most < b) → (ys first rest : List ℕ)
    → b ∷ ys ≡ first ++ rest → IsNumberUpTo most first → ⊥
no_number most b bad ys [] rest same word = word.2
no_number most b bad ys (c ∷ []) rest same word =
    let head : b ≡ c = cc same in
    ⊎_elim (λ (zero_is : b ≡ 0). omega (arith, head, zero_is, word.2.0))
    (λ (above : most < b). omega (arith, head, above, word.1, word.2.2)) bad
no_number most b bad ys (c ∷ d ∷ ds) rest same word =
    let head : b ≡ c = cc same in
    let some = number-some (d ∷ ds) word.2.2 word.2.4 in
    ⊎_elim (λ (zero_is : b ≡ 0). omega (arith, head, zero_is, word.2.0))
    (λ (above : most < b). omega (arith, head, above, word.1, word.2.3, some)) bad

pub number_stuck-here : (most b : ℕ) (bs : List ℕ) → (b ≡ 0) ⊎ (most < b)
    → AreStuck (IsNumberUpTo most) (b ∷ bs) 0
number_stuck-here most b bs bad = record {
  within = omega arith;
  begins = λ some. absurd (omega (arith, some));
  ends = λ within first rest more same word. no_number most b bad more first rest same word;
  none = λ first rest same word. no_number most b bad bs first rest same word;
}

-- behind a group a smaller number is left
peeled : (most b : ℕ) → 128 ≤ b → b ≤ most → (ys first rest : List ℕ) → b ∷ ys ≡ first ++ rest
    → IsNumberUpTo most first
    → (others : List ℕ) × (ys ≡ others ++ rest) × IsNumberUpTo ((most - b) / 128 + 1) others
peeled most b large within ys [] rest same word = absurd word.2
peeled most b large within ys (c ∷ []) rest same word =
    let head : b ≡ c = cc same in absurd (omega (arith, head, large, word.2.1))
peeled most b large within ys (c ∷ d ∷ ds) rest same word =
    let head : b ≡ c = cc same in
    let tail : ys ≡ (d ∷ ds) ++ rest = cc same in
    let high = word.2.2 in
    let small : high ≤ (most - b) / 128 + 1 = omega (arith, head, within, word.1, word.2.3) in
    (d ∷ ds, tail, (high, small, word.2.4))

pub number_stuck-more : (most b : ℕ) (bs : List ℕ) (at : ℕ) → 128 ≤ b → b < 256 → b ≤ most
    → AreStuck (IsNumberUpTo ((most - b) / 128 + 1)) bs at
    → AreStuck (IsNumberUpTo most) (b ∷ bs) (at + 1)
number_stuck-more most b bs at large below within stuck = record {
  within = omega (arith, stuck.within);
  begins = λ some. begun at stuck;
  ends = λ inside first rest more same word.
      let shifted : b ∷ (take (at + 1) bs ++ more) ≡ first ++ rest =
      sym (ap (λ es. es ++ more) (take-suc (at + 1) b bs)) ∙ same in
      let left = peeled most b large within (take (at + 1) bs ++ more) first rest shifted word in
      stuck.ends (omega (arith, inside)) left.0 rest more left.1 left.2;
  none = λ first rest same word.
      let left = peeled most b large within bs first rest same word in
      stuck.none left.0 rest left.1 left.2;
}
  where
    begun : (k : ℕ) → AreStuck (IsNumberUpTo ((most - b) / 128 + 1)) bs k
        → (more : List ℕ) × IsNumberUpTo most (take (k + 1) (b ∷ bs) ++ more)
    begun zero here =
        let one : SpellsNumber (1 ∷ []) 1 = (omega arith, omega arith, refl) in
        (1 ∷ [], (b, within, number-more b b (1 ∷ []) 1 large below refl one))
    begun (suc k) here =
        let found = here.begins (omega arith) in
        let high = found.1.0 in
        let small = found.1.1 in
        let n = b - 128 + 128 * high in
        let is : n + 128 ≡ b + 128 * high = omega (arith, large) in
        let fits : n ≤ most = omega (arith, large, small, within) in
        let word = number-more b n (take (suc k) bs ++ found.0) high large below is found.1.2 in
        let shifted = ap (λ es. es ++ found.0) (take-suc (suc k) b bs) in
        (found.0, (n, fits, subst (λ es. SpellsNumber es n) (sym shifted) word))

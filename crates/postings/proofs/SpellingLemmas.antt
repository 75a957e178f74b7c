-- Spellings: none begins another, so that bytes spell one list and a list has one spelling.
use Rattle.std.proofs.Common.{◌≡◌, ℕ, ◌-◌, ◌<◌, List, [], ◌∷◌, ◌++◌}
use Rattle.std.proofs.Common.{refl, sym, ap, ap₂, ◌∙◌, subst, arith, append_assoc}
use Rattle.index_definitions.specs.PostingLists.{DocumentPositions, PostingList}
use Rattle.postings.specs.Spelling.{SpellsNumber, SpellsNext, SpellsPositions, SpellsDocument}
use Rattle.postings.specs.Spelling.{SpellsDocuments, Spells}

-- ---- numbers

pub number-some : (bs : List ℕ) (n : ℕ) → SpellsNumber bs n → 0 < n
number-some [] n spells = absurd spells
number-some (b ∷ []) n spells = omega (arith, spells.0, spells.2)
number-some (b ∷ c ∷ bs) n spells =
    omega (arith, spells.0, spells.3, number-some (c ∷ bs) spells.2 spells.4)

-- a number doesn't begin with the byte 00
pub number-not_closed : (bs x y : List ℕ) (n : ℕ) → SpellsNumber bs n → bs ++ x ≡ 0 ∷ y → ⊥
number-not_closed [] x y n spells same = spells
number-not_closed (b ∷ []) x y n spells same =
    let zero_is : b ≡ 0 = cc same in omega (arith, spells.0, zero_is)
number-not_closed (b ∷ c ∷ bs) x y n spells same =
    let zero_is : b ≡ 0 = cc same in omega (arith, spells.0, zero_is)

pub number-not_empty : (bs x : List ℕ) (n : ℕ) → SpellsNumber bs n → bs ++ x ≡ [] → ⊥
number-not_empty [] x n spells same = spells
number-not_empty (b ∷ bs) x n spells same = cc same

-- no number begins another
pub number-front : (rs bs x y : List ℕ) (m n : ℕ) → SpellsNumber rs m → SpellsNumber bs n
    → rs ++ x ≡ bs ++ y → (rs ≡ bs) × (m ≡ n) × (x ≡ y)
number-front [] bs x y m n first second same = absurd first
number-front (a ∷ []) [] x y m n first second same = absurd second
number-front (a ∷ c ∷ rs) [] x y m n first second same = absurd second
number-front (a ∷ []) (b ∷ []) x y m n first second same =
    let head : a ≡ b = cc same in
    let tail : x ≡ y = cc same in
    (ap (λ d. d ∷ []) head, omega (arith, head, first.2, second.2), tail)
number-front (a ∷ []) (b ∷ d ∷ bs) x y m n first second same =
    let head : a ≡ b = cc same in absurd (omega (arith, head, first.1, second.0))
number-front (a ∷ c ∷ rs) (b ∷ []) x y m n first second same =
    let head : a ≡ b = cc same in absurd (omega (arith, head, first.0, second.1))
number-front (a ∷ c ∷ rs) (b ∷ d ∷ bs) x y m n first second same =
    let head : a ≡ b = cc same in
    let tail : (c ∷ rs) ++ x ≡ (d ∷ bs) ++ y = cc same in
    let rest = number-front (c ∷ rs) (d ∷ bs) x y first.2 second.2 first.4 second.4 tail in (
      ap₂ (λ e es. e ∷ es) head rest.0,
      omega (arith, head, rest.1, first.3, second.3),
      rest.2,
    )

-- a number has one spelling
number-bytes : (rs bs : List ℕ) (m n : ℕ) → SpellsNumber rs m → SpellsNumber bs n → m ≡ n → rs ≡ bs
number-bytes [] bs m n first second same = absurd first
number-bytes (a ∷ []) [] m n first second same = absurd second
number-bytes (a ∷ c ∷ rs) [] m n first second same = absurd second
number-bytes (a ∷ []) (b ∷ []) m n first second same =
    let head : a ≡ b = omega (arith, first.2, second.2, same) in ap (λ d. d ∷ []) head
number-bytes (a ∷ []) (b ∷ d ∷ bs) m n first second same =
    absurd (omega (
      arith,
      first.1,
      first.2,
      second.0,
      second.3,
      same,
      number-some (d ∷ bs) second.2 second.4,
    ))
number-bytes (a ∷ c ∷ rs) (b ∷ []) m n first second same =
    absurd (omega (
      arith,
      second.1,
      second.2,
      first.0,
      first.3,
      same,
      number-some (c ∷ rs) first.2 first.4,
    ))
number-bytes (a ∷ c ∷ rs) (b ∷ d ∷ bs) m n first second same =
    let head : a ≡ b =
    omega (arith, first.0, first.1, first.3, second.0, second.1, second.3, same) in
    let high : first.2 ≡ second.2 =
    omega (arith, first.0, first.1, first.3, second.0, second.1, second.3, same) in
    ap₂ (λ e es. e ∷ es) head
    (number-bytes (c ∷ rs) (d ∷ bs) first.2 second.2 first.4 second.4 high)

next-front : (before : ℕ) (rs bs x y : List ℕ) (m n : ℕ) → SpellsNext before rs m
    → SpellsNext before bs n → rs ++ x ≡ bs ++ y → (rs ≡ bs) × (m ≡ n) × (x ≡ y)
next-front before rs bs x y m n first second same =
    let parts = number-front rs bs x y (m - before) (n - before) first.2 second.2 same in
    (parts.0, omega (arith, first.0, second.0, parts.1), parts.2)

-- the first of two parts, with what is behind both
pub regrouped : (rs first rest x : List ℕ) → rs ≡ first ++ rest → rs ++ x ≡ first ++ (rest ++ x)
regrouped rs first rest x parts = ap (λ es. es ++ x) parts ∙ append_assoc first rest x

-- ---- positions

pub positions-front : (before : ℕ) (ms ns rs bs x y : List ℕ) → SpellsPositions before rs ms
    → SpellsPositions before bs ns → rs ++ x ≡ bs ++ y → (ms ≡ ns) × (rs ≡ bs) × (x ≡ y)
positions-front before [] [] rs bs x y first second same =
    let parts : 0 ∷ x ≡ 0 ∷ y =
    sym (ap (λ es. es ++ x) first) ∙ same ∙ ap (λ es. es ++ y) second in
    (refl, first ∙ sym second, cc parts)
positions-front before [] (n ∷ ns) rs bs x y first second same =
    absurd (number-not_closed second.0 (second.1 ++ y) x (n - before) second.3.2
    (sym (regrouped bs second.0 second.1 y second.2) ∙ sym same ∙ ap (λ es. es ++ x) first))
positions-front before (m ∷ ms) [] rs bs x y first second same =
    absurd (number-not_closed first.0 (first.1 ++ x) y (m - before) first.3.2
    (sym (regrouped rs first.0 first.1 x first.2) ∙ same ∙ ap (λ es. es ++ y) second))
positions-front before (m ∷ ms) (n ∷ ns) rs bs x y first second same =
    let here = next-front before first.0 second.0 (first.1 ++ x) (second.1 ++ y) m n
    first.3 second.3
    (sym (regrouped rs first.0 first.1 x first.2) ∙ same
    ∙ regrouped bs second.0 second.1 y second.2) in
    let later = positions-front m ms ns first.1 second.1 x y first.4
    (subst (λ k. SpellsPositions k second.1 ns) (sym here.1) second.4) here.2 in (
      ap₂ (λ k ks. k ∷ ks) here.1 later.0,
      first.2 ∙ ap₂ (λ es fs. es ++ fs) here.0 later.1 ∙ sym second.2,
      later.2,
    )

positions-bytes : (before : ℕ) (ns rs bs : List ℕ) → SpellsPositions before rs ns
    → SpellsPositions before bs ns → rs ≡ bs
positions-bytes before [] rs bs first second = first ∙ sym second
positions-bytes before (n ∷ ns) rs bs first second =
    first.2
    ∙ ap₂ (λ es fs. es ++ fs)
    (number-bytes first.0 second.0 (n - before) (n - before) first.3.2 second.3.2 refl)
    (positions-bytes n ns first.1 second.1 first.4 second.4)
    ∙ sym second.2

-- ---- documents

pub document-front : (before : ℕ) (e f : DocumentPositions) (rs bs x y : List ℕ)
    → SpellsDocument before rs e → SpellsDocument before bs f → rs ++ x ≡ bs ++ y
    → (e ≡ f) × (x ≡ y)
document-front before e f rs bs x y first second same =
    let here = next-front before first.0 second.0 (first.1 ++ x) (second.1 ++ y) e.0 f.0
    first.3 second.3
    (sym (regrouped rs first.0 first.1 x first.2) ∙ same
    ∙ regrouped bs second.0 second.1 y second.2) in
    let later = positions-front 0 e.1 f.1 first.1 second.1 x y first.5 second.5 here.2 in
    (ap₂ (λ k ks. (k, ks)) here.1 later.0, later.2)

pub document-not_empty : (before : ℕ) (e : DocumentPositions) (rs x : List ℕ)
    → SpellsDocument before rs e → rs ++ x ≡ [] → ⊥
document-not_empty before e rs x spells same =
    number-not_empty spells.0 (spells.1 ++ x) (e.0 - before) spells.3.2
    (sym (regrouped rs spells.0 spells.1 x spells.2) ∙ same)

document-bytes : (before : ℕ) (e : DocumentPositions) (rs bs : List ℕ)
    → SpellsDocument before rs e → SpellsDocument before bs e → rs ≡ bs
document-bytes before e rs bs first second =
    first.2
    ∙ ap₂ (λ es fs. es ++ fs)
    (number-bytes first.0 second.0 (e.0 - before) (e.0 - before) first.3.2 second.3.2 refl)
    (positions-bytes 0 e.1 first.1 second.1 first.5 second.5)
    ∙ sym second.2

-- ---- lists

documents-lists : (before : ℕ) (es fs : PostingList) (rs bs : List ℕ) → SpellsDocuments before rs es
    → SpellsDocuments before bs fs → rs ≡ bs → es ≡ fs
documents-lists before [] [] rs bs first second same = refl
documents-lists before [] (f ∷ fs) rs bs first second same =
    absurd (document-not_empty before f second.0 second.1 second.3
    (sym second.2 ∙ sym same ∙ first))
documents-lists before (e ∷ es) [] rs bs first second same =
    absurd (document-not_empty before e first.0 first.1 first.3
    (sym first.2 ∙ same ∙ second))
documents-lists before (e ∷ es) (f ∷ fs) rs bs first second same =
    let here = document-front before e f first.0 second.0 first.1 second.1 first.3 second.3
    (sym first.2 ∙ same ∙ second.2) in
    let moved = subst (λ (g : DocumentPositions). SpellsDocuments g.0 second.1 fs) (sym here.0)
    second.4 in
    ap₂ (λ g gs. g ∷ gs) here.0
    (documents-lists e.0 es fs first.1 second.1 first.4 moved here.1)

documents-bytes : (before : ℕ) (es : PostingList) (rs bs : List ℕ) → SpellsDocuments before rs es
    → SpellsDocuments before bs es → rs ≡ bs
documents-bytes before [] rs bs first second = first ∙ sym second
documents-bytes before (e ∷ es) rs bs first second =
    first.2
    ∙ ap₂ (λ cs ds. cs ++ ds) (document-bytes before e first.0 second.0 first.3 second.3)
    (documents-bytes e.0 es first.1 second.1 first.4 second.4)
    ∙ sym second.2

pub no_two_spellings : (list : PostingList) (first second : List ℕ) → Spells first list
    → Spells second list → first ≡ second
no_two_spellings list first second = documents-bytes 0 list first second

pub no_two_lists : (bytes : List ℕ) (first second : PostingList) → Spells bytes first
    → Spells bytes second → first ≡ second
no_two_lists bytes first second one other =
    documents-lists 0 first second bytes bytes one other refl

-- Rows among values, from a place on.
use Rattle.std.proofs.Common.{◌≡◌, ◌≢◌, ℕ, zero, suc, ◌+◌, ◌<◌, ◌≤◌}
use Rattle.std.proofs.Common.{Some, List, [], ◌∷◌, ◌++◌, length, take, drop, replicate}
use Rattle.std.proofs.Common.{refl, ap, ap₂, ◌∙◌, subst, arith, append_assoc, length-append}
use Rattle.std.specs.Prelude.{slice_get, slice_set}
use Rattle.std.proofs.lemmas.Option.{slice_get_within, get_or_from_slice_get}
use Rattle.std.proofs.Math.Seq.{drop-cons}
use Rattle.examples.proofs.RangeLemmas.{value_at}

pub slice_get-set_same : (values : List (List ℕ)) (o : ℕ) (row : List ℕ) → o < length values
    → slice_get (slice_set values o row) o ≡ Some row
slice_get-set_same [] o row within = absurd (omega arith)
slice_get-set_same (v ∷ values) zero row within = refl
slice_get-set_same (v ∷ values) (suc o) row within =
    slice_get-set_same values o row (omega arith)

pub slice_get-set_other : (values : List (List ℕ)) (o k : ℕ) (row : List ℕ) → k ≢ o
    → slice_get (slice_set values o row) k ≡ slice_get values k
slice_get-set_other [] o k row other = refl
slice_get-set_other (v ∷ values) zero zero row other = absurd (other refl)
slice_get-set_other (v ∷ values) zero (suc k) row other = refl
slice_get-set_other (v ∷ values) (suc o) zero row other = refl
slice_get-set_other (v ∷ values) (suc o) (suc k) row other =
    slice_get-set_other values o k row (λ same. other (ap suc same))

pub slice_set-set : (values : List (List ℕ)) (o : ℕ) (first second : List ℕ)
    → slice_set (slice_set values o first) o second ≡ slice_set values o second
slice_set-set [] o first second = refl
slice_set-set (v ∷ values) zero first second = refl
slice_set-set (v ∷ values) (suc o) first second =
    ap (λ rest. v ∷ rest) (slice_set-set values o first second)

-- these rows are values, from a place on
abbrev pub AreAt : List (List ℕ) → ℕ → List (List ℕ) → Type 0
AreAt values place [] = Unit {0}
AreAt values place (row ∷ rows) =
    (slice_get values place ≡ Some row) × AreAt values (place + 1) rows

-- and still are where those values are the same
pub at-kept : (values now : List (List ℕ)) (rows : List (List ℕ)) (place : ℕ)
    → ((k : ℕ) → place ≤ k → k < place + length rows → slice_get now k ≡ slice_get values k)
    → AreAt values place rows → AreAt now place rows
at-kept values now [] place same are = tt
at-kept values now (row ∷ rows) place same are = (
  same place (omega arith) (omega arith) ∙ are.0,
  at-kept values now rows (place + 1) (λ k from to. same k (omega arith) (omega arith)) are.1,
)

pub at-append : (values first second : List (List ℕ)) (place : ℕ)
    → AreAt values place first → AreAt values (place + length first) second
    → AreAt values place (first ++ second)
at-append values [] second place are later =
    let same : place + 0 ≡ place = omega arith in
    subst (λ k. AreAt values k second) same later
at-append values (row ∷ rows) second place are later =
    let same : place + length (row ∷ rows) ≡ place + 1 + length rows = omega arith in (
      are.0,
      at-append values rows second (place + 1) are.1
          (subst (λ k. AreAt values k second) same later),
    )

-- rows of no cells behind others
pub behind-rows : (rows : List (List ℕ)) (count place : ℕ) → length rows ≤ place
    → place < length rows + count → slice_get (rows ++ replicate count []) place ≡ Some []
behind-rows [] zero place from to = absurd (omega arith)
behind-rows [] (suc count) zero from to = refl
behind-rows [] (suc count) (suc place) from to =
    behind-rows [] count place (omega arith) (omega arith)
behind-rows (row ∷ rows) count zero from to = absurd (omega arith)
behind-rows (row ∷ rows) count (suc place) from to =
    behind-rows rows count place (omega arith) (omega arith)

-- rows between others
pub rows-between : (before rows behind : List (List ℕ)) (place : ℕ) → length before ≡ place
    → AreAt (before ++ (rows ++ behind)) place rows
rows-between before [] behind place here = tt
rows-between before (row ∷ rows) behind place here =
    let more = before ++ row ∷ [] in
    let next : length more ≡ place + 1 =
    length-append before (row ∷ []) ∙ ap (λ k. k + 1) here in (
      value_at before (rows ++ behind) place here row,
      subst (λ values. AreAt values (place + 1) rows)
          (append_assoc before (row ∷ []) (rows ++ behind))
          (rows-between more rows behind (place + 1) next),
    )

-- rows from a place on are those that are taken there
pub taken-at : (values rows : List (List ℕ)) (place : ℕ) → AreAt values place rows
    → take (length rows) (drop place values) ≡ rows
taken-at values [] place are = refl
taken-at values (row ∷ rows) place are =
    let within : place < length values = slice_get_within values place row are.0 in
    let next : suc place ≡ place + 1 = omega arith in
    ap (take (suc (length rows))) (drop-cons values place [] within)
    ∙ ap₂ (λ first later. first ∷ later) (get_or_from_slice_get values place row [] are.0)
    (ap (λ k. take (length rows) (drop k values)) next ∙ taken-at values rows (place + 1) are.1)

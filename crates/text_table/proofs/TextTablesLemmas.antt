-- A number of a text is a place at which it stands, the only one where texts are distinct.
use Rattle.std.proofs.Common.{◌≡◌, ◌≢◌, ℕ, zero, suc, ◌+◌, ◌<◌, ◌≤◌, List, [], ◌∷◌, ◌++◌, length, get_or}
use Rattle.std.proofs.Common.{Some, None}
use Rattle.std.proofs.Common.{is_some, cond, ltb, drop, not, true, false, sym, ◌∙◌, ap, ⊎_elim, arith}
use Rattle.std.proofs.lemmas.Bool.{cases_lt, false_from_ne_true}
use Rattle.std.proofs.lemmas.Bool.Decides.{Decides-ltb}
use Rattle.std.proofs.lemmas.List.Quantifiers.{position-Some, all_pairs_push}
use Rattle.std.proofs.lemmas.List.Sums.{position_or_len_is, fails_before_first, passes_at_first}
use Rattle.std.proofs.lemmas.Option.{slice_get_within, get_or_from_slice_get, slice_get-get_or}
use Rattle.std.proofs.lemmas.Slice.Eq.{bytes_eq-Decides}
use Rattle.std.specs.List.{slice_get, position_or_len}
use Rattle.std.specs.Option.{option_map}
use Rattle.std.specs.Str.{bytes_eq}
use Rattle.text_table.specs.TextTables.{number_of, with_text, AreDistinct}

-- a place that is within a list, and one that is past it
place_within : (place len : ℕ) → place < len → cond (ltb place len) (Some place) None ≡ Some place
place_within place len within =
    ap (λ b. cond b (Some place) None) ((Decides-ltb place len).1 within)

place_past : (place len : ℕ) → len ≤ place → cond (ltb place len) (Some place) None ≡ None
place_past place len past =
    ap (λ b. cond b (Some place) None)
    (false_from_ne_true (ltb place len) (λ yes.
    let within : place < len = (Decides-ltb place len).0 yes in omega arith))

one_behind : (place len : ℕ) → cond (ltb (1 + place) (suc len)) (Some (1 + place)) None
    ≡ option_map suc (cond (ltb place len) (Some place) None)
one_behind place len =
    ⊎_elim
    (λ (within : place < len).
    let next : 1 + place ≡ suc place = omega arith in
    place_within (1 + place) (suc len) (omega arith) ∙ ap Some next
    ∙ sym (ap (option_map suc) (place_within place len within)))
    (λ (past : len ≤ place).
    place_past (1 + place) (suc len) (omega arith)
    ∙ sym (ap (option_map suc) (place_past place len past)))
    (cases_lt place len)

-- the number of a text that isn't first is 1 more than among the others
pub number_of-cons : (first text : List ℕ) (rest : List (List ℕ))
    → number_of (first ∷ rest) text
    ≡ cond (bytes_eq text first) (Some 0) (option_map suc (number_of rest text))
unfolding number_of
number_of-cons first text rest =
    let behind = position_or_len (bytes_eq text) rest in
    elim (bytes_eq text first) as (λ b.
    let place = cond (not b) (1 + behind) 0 in
    cond (ltb place (length (first ∷ rest))) (Some place) None
    ≡ cond b (Some 0) (option_map suc (cond (ltb behind (length rest)) (Some behind) None))) [
      | true ↦ place_within 0 (length (first ∷ rest)) (omega arith)
      | false ↦ one_behind behind (length rest)
    ]

-- no text has a number in the empty list
pub number_of-nil : (text : List ℕ) → number_of [] text ≡ None
unfolding number_of
number_of-nil text = place_past 0 0 (omega arith)

AreDistinct-tail : (first : List ℕ) (rest : List (List ℕ)) → AreDistinct (first ∷ rest)
    → AreDistinct rest
AreDistinct-tail first rest distinct i j d before within =
    distinct (suc i) (suc j) d (omega arith) (omega arith)

pub AreDistinct-drop : (n : ℕ) (texts : List (List ℕ)) → AreDistinct texts
    → AreDistinct (drop n texts)
AreDistinct-drop zero texts distinct = distinct
AreDistinct-drop (suc n) [] distinct = distinct
AreDistinct-drop (suc n) (first ∷ rest) distinct =
    AreDistinct-drop n rest (AreDistinct-tail first rest distinct)

module _ (texts : List (List ℕ)) (text : List ℕ) where
  stands_at : (n : ℕ) → slice_get texts n ≡ Some text → bytes_eq text (get_or texts n text) ≡ true
  stands_at n at = (bytes_eq-Decides text (get_or texts n text)).1
      (sym (get_or_from_slice_get texts n text text at))

  -- the place of a text is its number
  pub number_of-at : (n : ℕ) → AreDistinct texts → slice_get texts n ≡ Some text
      → number_of texts text ≡ Some n
  unfolding number_of
  number_of-at n distinct at =
      let within = slice_get_within texts n text at in
      let first : position_or_len (bytes_eq text) texts ≡ n =
      position_or_len_is (bytes_eq text) texts n text (omega arith)
      (λ k before. false_from_ne_true (bytes_eq text (get_or texts k text)) (λ same.
      distinct k n text before within
      (sym ((bytes_eq-Decides text (get_or texts k text)).0 same)
      ∙ sym (get_or_from_slice_get texts n text text at))))
      (λ _. stands_at n at) in
      ap (λ place. cond (ltb place (length texts)) (Some place) None) first
      ∙ place_within n (length texts) within

  -- a number of a text is its place
  pub slice_get-number : (n : ℕ) → number_of texts text ≡ Some n → slice_get texts n ≡ Some text
  unfolding number_of
  slice_get-number n is =
      let first = position-Some (bytes_eq text) texts n text is in
      slice_get-get_or texts n text first.0
      ∙ ap Some (sym ((bytes_eq-Decides text (get_or texts n text)).0 first.1))

  -- a text that stands nowhere has no number
  pub number_of-none : ((n : ℕ) → slice_get texts n ≢ Some text) → number_of texts text ≡ None
  unfolding number_of
  number_of-none nowhere =
      let first = position_or_len (bytes_eq text) texts in
      ⊎_elim
      (λ (within : first < length texts).
      absurd (nowhere first (slice_get-get_or texts first text within
      ∙ ap Some (sym ((bytes_eq-Decides text (get_or texts first text)).0
      (passes_at_first (bytes_eq text) texts text within))))))
      (λ (past : length texts ≤ first). place_past first (length texts) past)
      (cases_lt first (length texts))

  -- a text that has no number stands nowhere
  pub nowhere-from_none : number_of texts text ≡ None → (n : ℕ) → slice_get texts n ≢ Some text
  unfolding number_of
  nowhere-from_none none n at =
      let first = position_or_len (bytes_eq text) texts in
      let within = slice_get_within texts n text at in
      ⊎_elim
      (λ (here : first < length texts).
      let some = place_within first (length texts) here in
      let both : None ≡ Some first = sym none ∙ some in cc)
      (λ (past : length texts ≤ first).
      let before : n < first = omega arith in
      let fails = fails_before_first (bytes_eq text) texts n text before in
      let passes = stands_at n at in
      let both : false ≡ true = sym fails ∙ passes in cc)
      (cases_lt first (length texts))

  -- a text that stands nowhere may be added
  pub AreDistinct-added : AreDistinct texts → number_of texts text ≡ None
      → AreDistinct (texts ++ text ∷ [])
  AreDistinct-added distinct none =
      all_pairs_push (λ a b. a ≢ b) texts text distinct
      (λ k d within same.
      nowhere-from_none none k (slice_get-get_or texts k d within ∙ ap Some same))

  -- a text that has a number is there
  pub with_text-known : (n : ℕ) → number_of texts text ≡ Some n → with_text texts text ≡ texts
  unfolding with_text
  with_text-known n is = ap (λ o. cond (is_some o) texts (texts ++ text ∷ [])) is

  -- a text that has no number is added
  pub with_text-new : number_of texts text ≡ None → with_text texts text ≡ texts ++ text ∷ []
  unfolding with_text
  with_text-new none = ap (λ o. cond (is_some o) texts (texts ++ text ∷ [])) none

-- the first text has no number among the others
pub AreDistinct-first : (first : List ℕ) (rest : List (List ℕ)) → AreDistinct (first ∷ rest)
    → (number_of rest first ≡ None) × AreDistinct rest
AreDistinct-first first rest distinct = (
  number_of-none rest first (λ n at.
      let within = slice_get_within rest n first at in
      distinct 0 (suc n) first (omega arith) (omega arith)
      (sym (get_or_from_slice_get rest n first first at))),
  AreDistinct-tail first rest distinct,
)

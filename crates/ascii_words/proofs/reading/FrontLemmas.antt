-- Bytes with text in front: how much of them is text, and how they are read.
use Rattle.std.proofs.Common.{◌≡◌, inl, inr, ℕ, zero, suc, ◌+◌, Bool, true, false, cond, List}
use Rattle.std.proofs.Common.{◌++◌, length, take, drop, IsUtf8, refl, sym, ap, ap₂, subst, ◌∙◌, arith}
use Rattle.std.proofs.Common.{append_assoc, take_at, take_all, length-append}
use Rattle.std.proofs.Math.Seq.{take-append-add, drop-append-add}
use Rattle.std.proofs.lemmas.Bool.{cases_lt}
use Rattle.std.proofs.lemmas.Str.{IsUtf8-append, IsUtf8-nil, IsUtf8-from_is_utf8, is_utf8-from_IsUtf8}
use Rattle.std.proofs.lemmas.Str.{utf8_valid_len_le, utf8_lossy-IsUtf8, utf8_lossy_step}
use Rattle.std.specs.Str.{is_utf8}
use Rattle.std.specs.Str.Lossy.{valid_len_up_to, utf8_valid_len, utf8_invalid_len}
use Rattle.std.specs.Str.Lossy.{after_first_chunk, replacement_bytes, utf8_lossy}
use Rattle.unicode_segmentation.proofs.TextLemmas.{IsUtf8-after}

-- ---- how much is text

same_tests : (x y : Bool) → (x ≡ true → y ≡ true) → (y ≡ true → x ≡ true) → x ≡ y
same_tests true y p q = sym (p refl)
same_tests false true p q = q refl
same_tests false false p q = refl

is_utf8-front : (text bs : List ℕ) → IsUtf8 text → is_utf8 (text ++ bs) ≡ is_utf8 bs
is_utf8-front text bs u =
    let whole = text ++ bs in
    same_tests (is_utf8 whole) (is_utf8 bs)
    (λ h. is_utf8-from_IsUtf8 bs (IsUtf8-after whole text bs (IsUtf8-from_is_utf8 whole h) u refl))
    (λ h. is_utf8-from_IsUtf8 whole (IsUtf8-append text bs u (IsUtf8-from_is_utf8 bs h)))

valid_len_up_to-text :
    (text bs : List ℕ) (n : ℕ) → IsUtf8 text → n ≡ length text
    → valid_len_up_to (text ++ bs) n ≡ n
valid_len_up_to-text text bs zero u e = refl
valid_len_up_to-text text bs (suc n) u e =
    let h : is_utf8 (take (suc n) (text ++ bs)) ≡ true =
    ap is_utf8 (take_at text bs (suc n) (sym e)) ∙ is_utf8-from_IsUtf8 text u in
    ap (λ b. cond b (suc n) (valid_len_up_to (text ++ bs) n)) h

valid_len_up_to-front :
    (text bs : List ℕ) (m : ℕ) → IsUtf8 text
    → valid_len_up_to (text ++ bs) (length text + m) ≡ length text + valid_len_up_to bs m
valid_len_up_to-front text bs zero u =
    let e : length text + 0 ≡ length text = omega arith in
    valid_len_up_to-text text bs (length text + 0) u e
valid_len_up_to-front text bs (suc m) u =
    let k = length text + m in
    let e : length text + suc m ≡ suc k = omega arith in
    let test : is_utf8 (take (suc k) (text ++ bs)) ≡ is_utf8 (take (suc m) bs) =
    ap (λ n. is_utf8 (take n (text ++ bs))) (sym e)
    ∙ ap is_utf8 (take-append-add text bs (suc m)) ∙ is_utf8-front text (take (suc m) bs) u in
    ap (valid_len_up_to (text ++ bs)) e
    ∙ ap₂ (λ b n. cond b (suc k) n) test (valid_len_up_to-front text bs m u)
    ∙ by (is_utf8 (take (suc m) bs)) (valid_len_up_to bs m) (sym e)
  where
    by :
        (b : Bool) (n : ℕ) → suc (length text + m) ≡ length text + suc m
        → cond b (suc (length text + m)) (length text + n) ≡ length text + cond b (suc m) n
    by true n e = e
    by false n e = refl

pub utf8_valid_len-front :
    (text bs : List ℕ) → IsUtf8 text
    → utf8_valid_len (text ++ bs) ≡ length text + utf8_valid_len bs
unfolding utf8_valid_len
utf8_valid_len-front text bs u =
    ap (valid_len_up_to (text ++ bs)) (length-append text bs)
    ∙ valid_len_up_to-front text bs (length bs) u

-- ---- the front that is text

IsUtf8-take-up_to : (bs : List ℕ) (m : ℕ) → IsUtf8 (take (valid_len_up_to bs m) bs)
IsUtf8-take-up_to bs zero = IsUtf8-nil
IsUtf8-take-up_to bs (suc m) = by (is_utf8 (take (suc m) bs)) refl (IsUtf8-take-up_to bs m)
  where
    by :
        (b : Bool) → is_utf8 (take (suc m) bs) ≡ b
        → IsUtf8 (take (valid_len_up_to bs m) bs)
        → IsUtf8 (take (cond b (suc m) (valid_len_up_to bs m)) bs)
    by true h u = IsUtf8-from_is_utf8 (take (suc m) bs) h
    by false h u = u

pub IsUtf8-take-valid : (bs : List ℕ) → IsUtf8 (take (utf8_valid_len bs) bs)
unfolding utf8_valid_len
IsUtf8-take-valid bs = IsUtf8-take-up_to bs (length bs)

pub IsUtf8-from_valid_len : (bs : List ℕ) → utf8_valid_len bs ≡ length bs → IsUtf8 bs
IsUtf8-from_valid_len bs e =
    subst IsUtf8 (take_all (utf8_valid_len bs) bs (omega arith)) (IsUtf8-take-valid bs)

-- ---- how they are read

pub utf8_lossy-front :
    (text bs : List ℕ) → IsUtf8 text → utf8_lossy (text ++ bs) ≡ text ++ utf8_lossy bs
utf8_lossy-front text bs u =
    let whole = text ++ bs in
    let n = utf8_valid_len bs in
    let l = length text in
    let within = utf8_valid_len_le bs in
    let total = length-append text bs in
    let long = utf8_valid_len-front text bs u in
    elim (cases_lt n (length bs)) [
      | inl lt ↦
          let faulty : utf8_valid_len bs ≡ length bs → ⊥ = λ e. omega arith in
          let faulty_all : utf8_valid_len whole ≡ length whole → ⊥ = λ e. omega arith in
          let front : take (utf8_valid_len whole) whole ≡ text ++ take n bs =
          ap (λ k. take k whole) long ∙ take-append-add text bs n in
          let left : drop (utf8_valid_len whole) whole ≡ drop n bs =
          ap (λ k. drop k whole) long ∙ drop-append-add text bs n in
          let i = utf8_invalid_len (drop n bs) in
          let sum : l + n + i ≡ l + (n + i) = omega arith in
          let rest : after_first_chunk whole ≡ after_first_chunk bs =
          ap₂ (λ k t. drop (k + utf8_invalid_len t) whole) long left
          ∙ ap (λ k. drop k whole) sum ∙ drop-append-add text bs (n + i) in
          utf8_lossy_step whole faulty_all
          ∙ ap₂ (λ x y. x ++ (replacement_bytes ++ utf8_lossy y)) front rest
          ∙ append_assoc text (take n bs) (replacement_bytes ++ utf8_lossy (after_first_chunk bs))
          ∙ ap (λ t. text ++ t) (sym (utf8_lossy_step bs faulty))
      | inr ge ↦
          let all : IsUtf8 bs = IsUtf8-from_valid_len bs (omega arith) in
          utf8_lossy-IsUtf8 whole (IsUtf8-append text bs u all)
          ∙ ap (λ t. text ++ t) (sym (utf8_lossy-IsUtf8 bs all))
    ]

-- Bytes that begin no character: how many of them one U+FFFD stands for, whatever comes after a line
-- feed behind them.
use Rattle.std.proofs.Common.{◌≡◌, inl, inr, ℕ, zero, suc, ◌+◌, ◌<◌, ◌≤◌, Bool, true, false, cond}
use Rattle.std.proofs.Common.{nat_lt, ◌==◌, List, [], ◌∷◌, ◌++◌, length, take, slice_index, IsUtf8}
use Rattle.std.proofs.Common.{unwrap_or, Some, None, Option, true≢false, refl, sym, ap, ap₂, subst}
use Rattle.std.proofs.Common.{◌∙◌, arith, take_at, take_all, take-take, length-append, length-take}
use Rattle.std.proofs.Common.{get_or-take, get_or-append-add}
use Rattle.std.proofs.lemmas.Bool.{cases_lt}
use Rattle.std.proofs.lemmas.Bool.Decides.{nat_tests}
use Rattle.std.proofs.lemmas.List.{take-append-le}
use Rattle.std.proofs.lemmas.Str.{IsUtf8-nil, IsUtf8-take, is_utf8-from_IsUtf8}
use Rattle.std.proofs.lemmas.Str.{utf8_valid_len-IsValidUpTo, IsCharBoundary-before_ascii}
use Rattle.std.specs.Int.{is_in_range}
use Rattle.std.specs.Str.{is_utf8}
use Rattle.std.specs.Str.Lossy.{valid_len_up_to, utf8_valid_len, second_byte_min, second_byte_max}
use Rattle.std.specs.Str.Lossy.{error_len_of_some, utf8_error_len, utf8_invalid_len}

-- ---- a line feed behind them makes no character

-- a front that is text is no longer than the longest
valid_len_up_to_some :
    (bs : List ℕ) (k m : ℕ) → IsUtf8 (take k bs) → 0 < k → k ≤ m → 0 < valid_len_up_to bs m
valid_len_up_to_some bs k zero u some le = omega arith
valid_len_up_to_some bs k (suc m) u some le =
    by (is_utf8 (take (suc m) bs)) refl (λ lower. valid_len_up_to_some bs k m u some lower)
  where
    by :
        (b : Bool) → is_utf8 (take (suc m) bs) ≡ b → (k ≤ m → 0 < valid_len_up_to bs m)
        → 0 < cond b (suc m) (valid_len_up_to bs m)
    by true h more = omega arith
    by false h more =
        elim (cases_lt m k) [
          | inl lt ↦
              let same : k ≡ suc m = omega arith in
              let text : IsUtf8 (take (suc m) bs) = subst (λ n. IsUtf8 (take n bs)) same u in
              absurd (true≢false (sym (is_utf8-from_IsUtf8 (take (suc m) bs) text) ∙ h))
          | inr ge ↦ more ge
        ]

utf8_valid_len_some :
    (bs : List ℕ) (k : ℕ) → IsUtf8 (take k bs) → 0 < k → k ≤ length bs → 0 < utf8_valid_len bs
unfolding utf8_valid_len
utf8_valid_len_some bs k u some le = valid_len_up_to_some bs k (length bs) u some le

module _ (broken rest : List ℕ) (some : 0 < length broken) (none : utf8_valid_len broken ≡ 0) where
  abbrev whole : List ℕ
  whole = broken ++ 0xA ∷ rest

  -- a front that is text would end before the line feed
  no_text : (k : ℕ) → 0 < k → IsUtf8 (take k whole) → ⊥
  no_text k pos u =
      let n = length broken in
      elim (cases_lt n k) [
        | inl lt ↦
            let front = take k whole in
            let total = length-append broken (0xA ∷ rest) in
            let long : n < length front = omega (arith, length-take k whole) in
            let lf : slice_index front n ≡ 0xA = get_or-take k whole n 0 lt ∙ at_lf in
            let line : IsUtf8 (take n front) =
            IsUtf8-take front n u (IsCharBoundary-before_ascii front n long (omega arith)) in
            let text : IsUtf8 (take n broken) =
            subst IsUtf8
            (take-take n k whole (omega arith) ∙ take_at broken (0xA ∷ rest) n refl
            ∙ sym (take_all n broken (omega arith)))
            line in
            let more = utf8_valid_len_some broken n text some (omega arith) in
            omega arith
        | inr ge ↦
            let text : IsUtf8 (take k broken) =
            subst IsUtf8 (take-append-le k broken (0xA ∷ rest) ge) u in
            let more = utf8_valid_len_some broken k text pos ge in
            omega arith
      ]
    where
      at_lf : slice_index whole (length broken) ≡ 0xA
      at_lf =
          let e : length broken + 0 ≡ length broken = omega arith in
          ap (slice_index whole) (sym e) ∙ get_or-append-add broken (0xA ∷ rest) 0 0

  pub utf8_valid_len-before_lf : utf8_valid_len whole ≡ 0
  utf8_valid_len-before_lf =
      utf8_valid_len-IsValidUpTo whole 0
      (record {
        short = omega (arith, length-append broken (0xA ∷ rest));
        front = IsUtf8-nil;
        longest = λ m pos u. no_text m pos u;
      })

-- ---- how many bytes one U+FFFD stands for

-- a line feed follows no first byte in a character
is_in_range-lf : (x : ℕ) → is_in_range (second_byte_min x) (second_byte_max x) 0xA ≡ false
is_in_range-lf x = by (x == 0xE0) (x == 0xF0) (second_byte_max x)
  where
    by : (b c : Bool) (m : ℕ) → is_in_range (cond b 0xA0 (cond c 0x90 0x80)) m 0xA ≡ false
    by true c m = refl
    by false true m = refl
    by false false m = refl

nat_lt-past : (n m : ℕ) → m ≤ n → nat_lt n m ≡ false
nat_lt-past n m le = grind (arith, nat_tests)

utf8_error_len-some :
    (bs : List ℕ) → 0 < length bs → utf8_error_len bs ≡ error_len_of_some bs
unfolding utf8_error_len
utf8_error_len-some [] some = absurd (omega arith)
utf8_error_len-some (b ∷ bs) some =
    let no : (length (b ∷ bs) == 0) ≡ false = grind (arith, nat_tests) in
    ap (λ t. cond t None (error_len_of_some (b ∷ bs))) no

-- the same number, of bytes that aren't none
abbrev broken_len : List ℕ → ℕ
broken_len bs = unwrap_or (error_len_of_some bs) (length bs)

utf8_invalid_len-some : (bs : List ℕ) → 0 < length bs → utf8_invalid_len bs ≡ broken_len bs
utf8_invalid_len-some bs some = ap (λ o. unwrap_or o (length bs)) (utf8_error_len-some bs some)

-- what the tests of a first, a second and a third byte make of it, and those of too few bytes
abbrev outcome : Bool → Bool → Bool → Bool → Bool → Bool → Option ℕ
outcome a b c s₂ s₃ s₄ =
    cond a
    (cond s₂ None (cond b (cond s₃ None (cond c (cond s₄ None (Some 3)) (Some 2))) (Some 1)))
    (Some 1)

after_one :
    (a b c s₂ s₃ s₄ : Bool) (n : ℕ) → b ≡ false → s₂ ≡ false
    → unwrap_or (outcome a b c s₂ s₃ s₄) n ≡ unwrap_or (cond a None (Some 1)) 1
after_one true false c false s₃ s₄ n p q = refl
after_one true true c s₂ s₃ s₄ n p q = cc
after_one true false c true s₃ s₄ n p q = cc
after_one false b c s₂ s₃ s₄ n p q = refl

after_two :
    (a b s₂ s₃ s₄ : Bool) (n : ℕ) → s₂ ≡ false → s₃ ≡ false
    → unwrap_or (outcome a b false s₂ s₃ s₄) n
    ≡ unwrap_or (cond a (cond b None (Some 1)) (Some 1)) 2
after_two true true false false s₄ n p q = refl
after_two true false false s₃ s₄ n p q = refl
after_two true b true s₃ s₄ n p q = cc
after_two true true false true s₄ n p q = cc
after_two false b s₂ s₃ s₄ n p q = refl

after_three :
    (a b c s₂ s₃ s₄ : Bool) (n : ℕ) → s₂ ≡ false → s₃ ≡ false → s₄ ≡ false
    → unwrap_or (outcome a b c s₂ s₃ s₄) n
    ≡ unwrap_or (cond a (cond b (cond c None (Some 2)) (Some 1)) (Some 1)) 3
after_three a b c s₂ s₃ s₄ n p q r =
    ap₂ (λ x y. unwrap_or (outcome a b c x y s₄) n) p q
    ∙ ap (λ z. unwrap_or (outcome a b c false false z) n) r ∙ by a b c
  where
    by :
        (a b c : Bool)
        → unwrap_or (outcome a b c false false false) n
        ≡ unwrap_or (cond a (cond b (cond c None (Some 2)) (Some 1)) (Some 1)) 3
    by true true true = refl
    by true true false = refl
    by true false c = refl
    by false b c = refl

after_more :
    (a b c s₂ s₃ s₄ : Bool) (n : ℕ) → s₂ ≡ false → s₃ ≡ false → s₄ ≡ false
    → unwrap_or (outcome a b c s₂ s₃ s₄) n ≡ cond a (cond b (cond c 3 2) 1) 1
after_more a b c s₂ s₃ s₄ n p q r =
    ap₂ (λ x y. unwrap_or (outcome a b c x y s₄) n) p q
    ∙ ap (λ z. unwrap_or (outcome a b c false false z) n) r ∙ by a b c
  where
    by :
        (a b c : Bool)
        → unwrap_or (outcome a b c false false false) n ≡ cond a (cond b (cond c 3 2) 1) 1
    by true true true = refl
    by true true false = refl
    by true false c = refl
    by false b c = refl

broken_len-before_lf :
    (broken rest : List ℕ) → 0 < length broken
    → broken_len (broken ++ 0xA ∷ rest) ≡ broken_len broken
broken_len-before_lf [] rest some = absurd (omega arith)
broken_len-before_lf (x ∷ []) rest some =
    let n = length (x ∷ (0xA ∷ rest)) in
    after_one (is_in_range 0xC2 0xF4 x)
    (is_in_range (second_byte_min x) (second_byte_max x) 0xA)
    (is_in_range 0x80 0xBF (slice_index rest 0)) (nat_lt n 2) (nat_lt n 3) (nat_lt n 4) n
    (is_in_range-lf x) (nat_lt-past n 2 (omega arith))
broken_len-before_lf (x ∷ (y ∷ [])) rest some =
    let n = length (x ∷ (y ∷ (0xA ∷ rest))) in
    after_two (is_in_range 0xC2 0xF4 x)
    (is_in_range (second_byte_min x) (second_byte_max x) y)
    (nat_lt n 2) (nat_lt n 3) (nat_lt n 4) n
    (nat_lt-past n 2 (omega arith)) (nat_lt-past n 3 (omega arith))
broken_len-before_lf (x ∷ (y ∷ (z ∷ []))) rest some =
    let n = length (x ∷ (y ∷ (z ∷ (0xA ∷ rest)))) in
    after_three (is_in_range 0xC2 0xF4 x)
    (is_in_range (second_byte_min x) (second_byte_max x) y) (is_in_range 0x80 0xBF z)
    (nat_lt n 2) (nat_lt n 3) (nat_lt n 4) n
    (nat_lt-past n 2 (omega arith)) (nat_lt-past n 3 (omega arith)) (nat_lt-past n 4 (omega arith))
broken_len-before_lf (x ∷ (y ∷ (z ∷ (t ∷ more)))) rest some =
    let n = length (x ∷ (y ∷ (z ∷ (t ∷ (more ++ 0xA ∷ rest))))) in
    let m = length (x ∷ (y ∷ (z ∷ (t ∷ more)))) in
    let a = is_in_range 0xC2 0xF4 x in
    let b = is_in_range (second_byte_min x) (second_byte_max x) y in
    let c = is_in_range 0x80 0xBF z in
    after_more a b c (nat_lt n 2) (nat_lt n 3) (nat_lt n 4) n
    (nat_lt-past n 2 (omega arith)) (nat_lt-past n 3 (omega arith)) (nat_lt-past n 4 (omega arith))
    ∙ sym (after_more a b c (nat_lt m 2) (nat_lt m 3) (nat_lt m 4) m
    (nat_lt-past m 2 (omega arith)) (nat_lt-past m 3 (omega arith)) (nat_lt-past m 4 (omega arith)))

-- the same number of bytes, whatever comes after the line feed
pub utf8_invalid_len-before_lf :
    (broken rest : List ℕ) → 0 < length broken
    → utf8_invalid_len (broken ++ 0xA ∷ rest) ≡ utf8_invalid_len broken
utf8_invalid_len-before_lf broken rest some =
    utf8_invalid_len-some (broken ++ 0xA ∷ rest) (omega (arith, length-append broken (0xA ∷ rest)))
    ∙ broken_len-before_lf broken rest some ∙ sym (utf8_invalid_len-some broken some)

-- ---- one byte at least, and none past the end

abbrev IsWithin : ℕ → ℕ → Type 0
IsWithin r n = (0 < r) × (r ≤ n)

within_one : (a : Bool) → IsWithin (unwrap_or (cond a None (Some 1)) 1) 1
within_one true = (omega arith, omega arith)
within_one false = (omega arith, omega arith)

within_two : (a b : Bool) → IsWithin (unwrap_or (cond a (cond b None (Some 1)) (Some 1)) 2) 2
within_two true true = (omega arith, omega arith)
within_two true false = (omega arith, omega arith)
within_two false b = (omega arith, omega arith)

within_more :
    (a b c s₂ s₃ s₄ : Bool) (n : ℕ) → 3 ≤ n
    → IsWithin (unwrap_or (outcome a b c s₂ s₃ s₄) n) n
within_more true true true false false false n h = (omega arith, omega arith)
within_more true true true false false true n h = (omega arith, omega arith)
within_more true true false false false s₄ n h = (omega arith, omega arith)
within_more true true c false true s₄ n h = (omega arith, omega arith)
within_more true false c false s₃ s₄ n h = (omega arith, omega arith)
within_more true b c true s₃ s₄ n h = (omega arith, omega arith)
within_more false b c s₂ s₃ s₄ n h = (omega arith, omega arith)

broken_len-within : (bs : List ℕ) → 0 < length bs → IsWithin (broken_len bs) (length bs)
broken_len-within [] some = absurd (omega arith)
broken_len-within (x ∷ []) some = within_one (is_in_range 0xC2 0xF4 x)
broken_len-within (x ∷ (y ∷ [])) some =
    within_two (is_in_range 0xC2 0xF4 x) (is_in_range (second_byte_min x) (second_byte_max x) y)
broken_len-within (x ∷ (y ∷ (z ∷ more))) some =
    let n = length (x ∷ (y ∷ (z ∷ more))) in
    within_more (is_in_range 0xC2 0xF4 x)
    (is_in_range (second_byte_min x) (second_byte_max x) y) (is_in_range 0x80 0xBF z)
    (nat_lt n 2) (nat_lt n 3) (nat_lt n 4) n (omega arith)

pub utf8_invalid_len-within :
    (bs : List ℕ) → 0 < length bs
    → (0 < utf8_invalid_len bs) × (utf8_invalid_len bs ≤ length bs)
utf8_invalid_len-within bs some =
    subst (λ n. IsWithin n (length bs)) (sym (utf8_invalid_len-some bs some))
    (broken_len-within bs some)

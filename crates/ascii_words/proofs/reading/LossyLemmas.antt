-- Bytes are read as UTF-8 line by line, and so are their words.
use Rattle.std.proofs.Common.{◌≡◌, inl, inr, ℕ, zero, suc, ◌+◌, ◌<◌, ◌≤◌, List, [], ◌∷◌, ◌++◌, length}
use Rattle.std.proofs.Common.{take, drop, IsUtf8, refl, sym, ap, subst, ◌∙◌, arith, append_assoc}
use Rattle.std.proofs.Common.{length-append, length-drop, length-take-le, take-append-drop}
use Rattle.std.proofs.lemmas.Bool.{cases_lt}
use Rattle.std.proofs.lemmas.List.{drop-append-le}
use Rattle.std.proofs.lemmas.Str.{IsUtf8-append, IsUtf8-nil, utf8_valid_len_le, utf8_lossy-IsUtf8}
use Rattle.std.proofs.lemmas.Str.{utf8_lossy_step}
use Rattle.std.specs.Str.Lossy.{utf8_valid_len, utf8_invalid_len, after_first_chunk}
use Rattle.std.specs.Str.Lossy.{replacement_bytes, utf8_lossy}
use Rattle.std.specs.Char.{encode_utf8}
use Rattle.unicode_segmentation.specs.Word.{words}
use Rattle.ascii_words.specs.Laws.{RestartInBytes}
use Rattle.ascii_words.proofs.lines.RestartLemmas.{IsUtf8-lf, words-restart}
use Rattle.ascii_words.proofs.reading.FrontLemmas.{utf8_valid_len-front, utf8_lossy-front}
use Rattle.ascii_words.proofs.reading.FrontLemmas.{IsUtf8-take-valid, IsUtf8-from_valid_len}
use Rattle.ascii_words.proofs.reading.BrokenLemmas.{utf8_valid_len-before_lf}
use Rattle.ascii_words.proofs.reading.BrokenLemmas.{utf8_invalid_len-before_lf, utf8_invalid_len-within}

-- ---- line by line

-- a line that is text
utf8_lossy-text_lf :
    (line rest : List ℕ) → IsUtf8 line
    → utf8_lossy (line ++ 0xA ∷ rest) ≡ utf8_lossy line ++ 0xA ∷ utf8_lossy rest
utf8_lossy-text_lf line rest u =
    utf8_lossy-front line (0xA ∷ rest) u
    ∙ ap (λ t. line ++ t) (utf8_lossy-front (0xA ∷ []) rest IsUtf8-lf)
    ∙ ap (λ t. t ++ 0xA ∷ utf8_lossy rest) (sym (utf8_lossy-IsUtf8 line u))

-- one U+FFFD at the front
utf8_lossy-broken :
    (bs : List ℕ) → 0 < length bs → utf8_valid_len bs ≡ 0
    → utf8_lossy bs ≡ replacement_bytes ++ utf8_lossy (drop (utf8_invalid_len bs) bs)
utf8_lossy-broken bs some none =
    let faulty : utf8_valid_len bs ≡ length bs → ⊥ = λ e. omega arith in
    let sum : 0 + utf8_invalid_len bs ≡ utf8_invalid_len bs = omega arith in
    utf8_lossy_step bs faulty
    ∙ ap (λ m. take m bs ++ (replacement_bytes
    ++ utf8_lossy (drop (m + utf8_invalid_len (drop m bs)) bs))) none
    ∙ ap (λ m. replacement_bytes ++ utf8_lossy (drop m bs)) sum

-- a line of at most k bytes
utf8_lossy-lf_within :
    (k : ℕ) (line rest : List ℕ) → length line ≤ k
    → utf8_lossy (line ++ 0xA ∷ rest) ≡ utf8_lossy line ++ 0xA ∷ utf8_lossy rest
utf8_lossy-lf_within zero [] rest le = utf8_lossy-text_lf [] rest IsUtf8-nil
utf8_lossy-lf_within zero (x ∷ line) rest le = absurd (omega arith)
utf8_lossy-lf_within (suc k) line rest le =
    let n = utf8_valid_len line in
    let within = utf8_valid_len_le line in
    elim (cases_lt n (length line)) [
      | inr ge ↦ utf8_lossy-text_lf line rest (IsUtf8-from_valid_len line (omega arith))
      | inl lt ↦
          let text = take n line in
          let broken = drop n line in
          let u : IsUtf8 text = IsUtf8-take-valid line in
          let parts : text ++ broken ≡ line = take-append-drop n line in
          let wide : length text ≡ n = length-take-le n line within in
          let some : 0 < length broken = omega (arith, length-drop n line) in
          let front = utf8_valid_len-front text broken u in
          let same = ap utf8_valid_len parts in
          let none : utf8_valid_len broken ≡ 0 = omega arith in
          let all = broken ++ 0xA ∷ rest in
          let all_some : 0 < length all = omega (arith, length-append broken (0xA ∷ rest)) in
          let i = utf8_invalid_len broken in
          let bounds = utf8_invalid_len-within broken some in
          let positive = bounds.0 in
          let left : drop (utf8_invalid_len all) all ≡ drop i broken ++ 0xA ∷ rest =
          ap (λ m. drop m all) (utf8_invalid_len-before_lf broken rest some)
          ∙ drop-append-le i broken (0xA ∷ rest) bounds.1 in
          let shorter : length (drop i broken) ≤ k =
          omega (arith, length-drop i broken, length-drop n line) in
          let later : utf8_lossy all ≡ utf8_lossy broken ++ 0xA ∷ utf8_lossy rest =
          utf8_lossy-broken all all_some (utf8_valid_len-before_lf broken rest some none)
          ∙ ap (λ t. replacement_bytes ++ utf8_lossy t) left
          ∙ ap (λ t. replacement_bytes ++ t) (utf8_lossy-lf_within k (drop i broken) rest shorter)
          ∙ sym (append_assoc replacement_bytes (utf8_lossy (drop i broken))
          (0xA ∷ utf8_lossy rest))
          ∙ ap (λ t. t ++ 0xA ∷ utf8_lossy rest) (sym (utf8_lossy-broken broken some none)) in
          ap (λ t. utf8_lossy (t ++ 0xA ∷ rest)) (sym parts)
          ∙ ap utf8_lossy (append_assoc text broken (0xA ∷ rest))
          ∙ utf8_lossy-front text all u
          ∙ ap (λ t. text ++ t) later
          ∙ sym (append_assoc text (utf8_lossy broken) (0xA ∷ utf8_lossy rest))
          ∙ ap (λ t. t ++ 0xA ∷ utf8_lossy rest)
          (sym (utf8_lossy-front text broken u) ∙ ap utf8_lossy parts)
    ]

pub utf8_lossy-lf :
    (line rest : List ℕ)
    → utf8_lossy (line ++ 0xA ∷ rest) ≡ utf8_lossy line ++ 0xA ∷ utf8_lossy rest
utf8_lossy-lf line rest = utf8_lossy-lf_within (length line) line rest (omega arith)

-- ---- what is read is text

IsUtf8-replacement : IsUtf8 replacement_bytes
unfolding encode_utf8
IsUtf8-replacement = (0xFFFD ∷ [], (refl, refl))

-- of at most k bytes
IsUtf8-utf8_lossy_within : (k : ℕ) (bs : List ℕ) → length bs ≤ k → IsUtf8 (utf8_lossy bs)
IsUtf8-utf8_lossy_within zero [] le = subst IsUtf8 (sym (utf8_lossy-IsUtf8 [] IsUtf8-nil)) IsUtf8-nil
IsUtf8-utf8_lossy_within zero (b ∷ bs) le = absurd (omega arith)
IsUtf8-utf8_lossy_within (suc k) bs le =
    let n = utf8_valid_len bs in
    let within = utf8_valid_len_le bs in
    elim (cases_lt n (length bs)) [
      | inr ge ↦
          let u = IsUtf8-from_valid_len bs (omega arith) in
          subst IsUtf8 (sym (utf8_lossy-IsUtf8 bs u)) u
      | inl lt ↦
          let faulty : utf8_valid_len bs ≡ length bs → ⊥ = λ e. omega arith in
          let broken = drop n bs in
          let rest = after_first_chunk bs in
          let some : 0 < length broken = omega (arith, length-drop n bs) in
          let bounds = utf8_invalid_len-within broken some in
          let positive = bounds.0 in
          let shorter : length rest ≤ k =
          omega (arith, length-drop (n + utf8_invalid_len broken) bs) in
          subst IsUtf8 (sym (utf8_lossy_step bs faulty))
          (IsUtf8-append (take n bs) (replacement_bytes ++ utf8_lossy rest) (IsUtf8-take-valid bs)
          (IsUtf8-append replacement_bytes (utf8_lossy rest) IsUtf8-replacement
          (IsUtf8-utf8_lossy_within k rest shorter)))
    ]

pub IsUtf8-utf8_lossy : (bs : List ℕ) → IsUtf8 (utf8_lossy bs)
IsUtf8-utf8_lossy bs = IsUtf8-utf8_lossy_within (length bs) bs (omega arith)

-- ---- the words

pub words-restart_in_bytes : RestartInBytes
words-restart_in_bytes line rest =
    ap words (utf8_lossy-lf line rest)
    ∙ words-restart (utf8_lossy line) (utf8_lossy rest) (IsUtf8-utf8_lossy line)

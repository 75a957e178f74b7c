-- Steps over the bytes of an ASCII text: to a piece's end, and past a byte that is in no word.
use Rattle.std.proofs.Common.{◌≡◌, inl, inr, ℕ, ◌+◌, ◌-◌, ◌<◌, Bool, true, false, cond, not}
use Rattle.std.proofs.Common.{◌&&◌, ◌||◌, nat_le, List, [], ◌∷◌, length, take, drop, slice_index}
use Rattle.std.proofs.Common.{slice_range, IsAscii, ◌==◌, true≢false, refl, sym, ap, ap₂, subst}
use Rattle.std.proofs.Common.{◌∙◌, arith}
use Rattle.std.proofs.lemmas.Bool.{cases_lt, or_parts}
use Rattle.std.proofs.lemmas.Bool.Decides.{nat_tests}
use Rattle.std.proofs.lemmas.List.{get_or_past, drop_more}
use Rattle.std.proofs.lemmas.Str.{IsUtf8-from_ascii, IsCharBoundary-end}
use Rattle.std.specs.Char.{is_ascii_alphabetic, is_ascii_digit, is_ascii_alphanumeric}
use Rattle.ucd_table.proofs.TrieCheck.{all_below-at}
use Rattle.ucd_breaks.proofs.Computing.{ucd_breaks}
use Rattle.unicode_segmentation.specs.Steps.{IsFirstEnd}
use Rattle.unicode_segmentation.proofs.BoolLemmas.{and-false}
use Rattle.unicode_segmentation.proofs.SegmentsLemmas.{IsWalk, IsWalk-start, IsWalk-step}
use Rattle.unicode_segmentation.proofs.SegmentsLemmas.{IsFirstEnd-at_break}
use Rattle.ascii_words.specs.AsciiWords.{is_run, bridges_letters, bridges_digits, is_bridge}
use Rattle.ascii_words.specs.AsciiWords.{is_joined, is_ascii_break}
use Rattle.ascii_words.specs.Places.{byte_before, is_joined_at, words_left, IsCutAt}
use Rattle.ascii_words.proofs.ascii.BoundLemmas.{is_word}
use Rattle.ascii_words.proofs.ascii.JoinLemmas.{is_run-parts}
use Rattle.ascii_words.proofs.places.PlaceLemmas.{breaks_at-ascii, IsCharAt-ascii, words_left-piece}

-- ---- which bytes bridge

-- no byte of a run bridges others
abbrev bridges_none : ℕ → Bool
bridges_none c = not (is_run c) || not (bridges_letters c || bridges_digits c)

is_bridge-mid_run :
    (before mid after : ℕ) → mid < 128 → is_run mid ≡ true → is_bridge before mid after ≡ false
unfolding ucd_breaks
is_bridge-mid_run before mid after low run =
    let parts =
    or_parts (bridges_letters mid) (bridges_digits mid)
    (by (is_run mid) (bridges_letters mid || bridges_digits mid) run
    (all_below-at bridges_none 128 mid refl low)) in
    ap₂ (λ l d. (is_ascii_alphabetic before && l && is_ascii_alphabetic after)
    || (is_ascii_digit before && d && is_ascii_digit after)) parts.0 parts.1
    ∙ nothing (is_ascii_alphabetic before) (is_ascii_digit before)
  where
    by : (x y : Bool) → x ≡ true → (not x || not y) ≡ true → y ≡ false
    by true true p q = sym q
    by true false p q = refl
    by false y p q = cc

    nothing :
        (x y : Bool)
        → ((x && false && is_ascii_alphabetic after) || (y && false && is_ascii_digit after))
        ≡ false
    nothing true true = refl
    nothing true false = refl
    nothing false true = refl
    nothing false false = refl

-- only bytes of a run are bridged
is_bridge-before_none :
    (before mid after : ℕ) → is_run before ≡ false → is_bridge before mid after ≡ false
is_bridge-before_none before mid after none =
    let parts =
    or_parts (is_ascii_digit before || is_ascii_alphabetic before) (before == 0x5F)
    (sym (is_run-parts before) ∙ none) in
    let classes = or_parts (is_ascii_digit before) (is_ascii_alphabetic before) parts.0 in
    ap₂ (λ l d. (l && bridges_letters mid && is_ascii_alphabetic after)
    || (d && bridges_digits mid && is_ascii_digit after)) classes.1 classes.0

is_bridge-after_none :
    (before mid after : ℕ) → is_run after ≡ false → is_bridge before mid after ≡ false
is_bridge-after_none before mid after none =
    let parts =
    or_parts (is_ascii_digit after || is_ascii_alphabetic after) (after == 0x5F)
    (sym (is_run-parts after) ∙ none) in
    let classes = or_parts (is_ascii_digit after) (is_ascii_alphabetic after) parts.0 in
    ap₂ (λ l d. (is_ascii_alphabetic before && bridges_letters mid && l)
    || (is_ascii_digit before && bridges_digits mid && d)) classes.1 classes.0
    ∙ nothing (is_ascii_alphabetic before && bridges_letters mid)
    (is_ascii_digit before && bridges_digits mid)
  where
    nothing : (x y : Bool) → ((x && false) || (y && false)) ≡ false
    nothing true true = refl
    nothing true false = refl
    nothing false true = refl
    nothing false false = refl

-- what a bridge leads to is of a run, and in the text
pub is_run-bridged :
    (before mid after : ℕ) → is_bridge before mid after ≡ true → is_run after ≡ true
is_run-bridged before mid after bridge = by (is_run after) refl
  where
    by : (b : Bool) → is_run after ≡ b → b ≡ true
    by true is = refl
    by false is = absurd (true≢false (sym bridge ∙ is_bridge-after_none before mid after is))

pub bridged-inside :
    (text : List ℕ) (before mid i : ℕ) → is_bridge before mid (slice_index text i) ≡ true
    → i < length text
bridged-inside text before mid i bridge =
    elim (cases_lt i (length text)) [
      | inl inside ↦ inside
      | inr past ↦
          absurd (true≢false (sym (is_run-bridged before mid (slice_index text i) bridge)
          ∙ ap is_run (get_or_past text i 0 past)))
    ]

-- ---- where pieces end

byte_before-one : (text : List ℕ) (i : ℕ) → 0 < i → byte_before text i 1 ≡ slice_index text (i - 1)
byte_before-one text i some =
    let yes : nat_le 1 i ≡ true = grind (arith, nat_tests) in
    ap (λ b. cond b (slice_index text (i - 1)) 0) yes

byte_before-two : (text : List ℕ) (i : ℕ) → 1 < i → byte_before text i 2 ≡ slice_index text (i - 2)
byte_before-two text i some =
    let yes : nat_le 2 i ≡ true = grind (arith, nat_tests) in
    ap (λ b. cond b (slice_index text (i - 2)) 0) yes

-- two places before the next place is one before this
byte_before-moved : (text : List ℕ) (i : ℕ) → byte_before text (i + 1) 2 ≡ byte_before text i 1
byte_before-moved text i =
    elim (cases_lt 0 i) [
      | inl some ↦
          let back : i + 1 - 2 ≡ i - 1 = omega arith in
          byte_before-two text (i + 1) (omega arith)
          ∙ ap (slice_index text) back ∙ sym (byte_before-one text i some)
      | inr none ↦
          let two : nat_le 2 (i + 1) ≡ false = grind (arith, nat_tests) in
          let one : nat_le 1 i ≡ false = grind (arith, nat_tests) in
          ap (λ b. cond b (slice_index text (i + 1 - 2)) 0) two
          ∙ sym (ap (λ b. cond b (slice_index text (i - 1)) 0) one)
    ]

pub IsCutAt-start : (text : List ℕ) → IsCutAt text 0
IsCutAt-start text = record { within = omega arith; apart = refl }

pub IsCutAt-end : (text : List ℕ) (i : ℕ) → i ≡ length text → IsCutAt text i
IsCutAt-end text i e =
    let here : slice_index text i ≡ 0 = get_or_past text i 0 (omega arith) in
    let next : slice_index text (i + 1) ≡ 0 = get_or_past text (i + 1) 0 (omega arith) in
    record {
      within = omega arith;
      apart =
          ap₂ (λ x y. is_joined (byte_before text i 2) (byte_before text i 1) x y) here next
          ∙ nothing_joins (byte_before text i 2) (byte_before text i 1);
    }
  where
    nothing_joins : (far_left left : ℕ) → is_joined far_left left 0 0 ≡ false
    nothing_joins far_left left =
        ap₂ (λ x y. x || (y || is_bridge far_left left 0)) (and-false (is_run left))
        (is_bridge-after_none left 0 0 refl)
        ∙ is_bridge-after_none far_left left 0 refl

-- behind a run that the next byte neither goes on with nor bridges
pub IsCutAt-run_end :
    (text : List ℕ) (i : ℕ) → IsAscii text → 0 < i → i < length text
    → is_run (slice_index text (i - 1)) ≡ true → is_run (slice_index text i) ≡ false
    → is_bridge (slice_index text (i - 1)) (slice_index text i) (slice_index text (i + 1)) ≡ false
    → IsCutAt text i
IsCutAt-run_end text i ascii some inside run none bridge =
    let left = slice_index text (i - 1) in
    let right = slice_index text i in
    let far_right = slice_index text (i + 1) in
    let far_left = byte_before text i 2 in
    let over : is_bridge far_left left right ≡ false =
    is_bridge-mid_run far_left left right (ascii (i - 1)) run in
    record {
      within = omega arith;
      apart =
          ap (λ b. is_joined far_left b right far_right) (byte_before-one text i some)
          ∙ ap₂ (λ r s. (r && s) || (is_bridge left right far_right || is_bridge far_left left right))
          run none
          ∙ ap₂ (λ x y. x || y) bridge over;
    }

-- behind a byte that is in no word
IsCutAt-past :
    (text : List ℕ) (i : ℕ) → i < length text → IsCutAt text i
    → is_run (slice_index text i) ≡ false → IsCutAt text (i + 1)
IsCutAt-past text i inside cut none =
    let here : i + 1 - 1 ≡ i = omega arith in
    let left : byte_before text (i + 1) 1 ≡ slice_index text i =
    byte_before-one text (i + 1) (omega arith) ∙ ap (slice_index text) here in
    let c = slice_index text i in
    let right = slice_index text (i + 1) in
    let far_right = slice_index text (i + 1 + 1) in
    let far_left = byte_before-moved text i in
    let over : is_bridge (byte_before text i 1) c right ≡ false =
    (or_parts (is_bridge (byte_before text i 1) c right)
    (is_bridge (byte_before text i 2) (byte_before text i 1) c)
    (or_parts (is_run (byte_before text i 1) && is_run c)
    (is_bridge (byte_before text i 1) c right
    || is_bridge (byte_before text i 2) (byte_before text i 1) c)
    cut.apart).1).0 in
    record {
      within = omega arith;
      apart =
          ap₂ (λ a b. is_joined a b right far_right) far_left left
          ∙ ap (λ r. (r && is_run right) || (is_bridge c right far_right
          || is_bridge (byte_before text i 1) c right)) none
          ∙ ap₂ (λ x y. x || y) (is_bridge-before_none c right far_right none) over;
    }

-- ---- walking over a piece

module _ (text : List ℕ) (ascii : IsAscii text) (start : ℕ) where
  abbrev pub IsOn : ℕ → Type 0
  IsOn i = IsWalk is_ascii_break text start (length text) i

  -- a piece has one byte at least
  pub IsOn-start : start < length text → IsOn (start + 1)
  IsOn-start inside =
      IsWalk-start is_ascii_break text (IsUtf8-from_ascii text ascii) start (length text)
      _ (start + 1) (IsCharAt-ascii text start ascii inside) (omega arith) (IsCharBoundary-end _)

  one_on : (i : ℕ) → IsOn i → i < length text → is_joined_at text i ≡ true → IsOn (i + 1)
  one_on i walk inside joined =
      IsWalk-step is_ascii_break text (IsUtf8-from_ascii text ascii) start (length text)
      i _ (i + 1) walk (breaks_at-ascii text i ascii (omega arith) ∙ ap not joined)
      (IsCharAt-ascii text i ascii inside) (omega arith) (IsCharBoundary-end _)

  -- over a byte that goes on with the run
  pub IsOn-run :
      (i : ℕ) → IsOn i → i < length text → is_run (slice_index text (i - 1)) ≡ true
      → is_run (slice_index text i) ≡ true → IsOn (i + 1)
  IsOn-run i walk inside run next =
      let some : 0 < i = omega (arith, walk.grows) in
      let right = slice_index text i in
      let far_right = slice_index text (i + 1) in
      let far_left = byte_before text i 2 in
      one_on i walk inside
      (ap (λ b. is_joined far_left b right far_right) (byte_before-one text i some)
      ∙ ap₂ (λ x y. (x && y) || (is_bridge (slice_index text (i - 1)) right far_right
      || is_bridge far_left (slice_index text (i - 1)) right)) run next)

  -- over a bridge and the byte behind it
  pub IsOn-bridge :
      (i : ℕ) → IsOn i → i + 1 < length text
      → is_bridge (slice_index text (i - 1)) (slice_index text i) (slice_index text (i + 1)) ≡ true
      → IsOn (i + 2)
  IsOn-bridge i walk inside bridge =
      let some : 0 < i = omega (arith, walk.grows) in
      let left = slice_index text (i - 1) in
      let mid = slice_index text i in
      let right = slice_index text (i + 1) in
      let here : i + 1 - 1 ≡ i = omega arith in
      let back : i + 1 - 2 ≡ i - 1 = omega arith in
      let on : i + 1 + 1 ≡ i + 2 = omega arith in
      let far_left : byte_before text (i + 1) 2 ≡ left =
      byte_before-two text (i + 1) (omega arith) ∙ ap (slice_index text) back in
      let near : byte_before text (i + 1) 1 ≡ mid =
      byte_before-one text (i + 1) (omega arith) ∙ ap (slice_index text) here in
      let first : is_joined_at text i ≡ true =
      ap (λ b. is_joined (byte_before text i 2) b mid right) (byte_before-one text i some)
      ∙ ap (λ b. (is_run left && is_run mid) || (b || is_bridge (byte_before text i 2) left mid))
      bridge ∙ or_true (is_run left && is_run mid) in
      let second : is_joined_at text (i + 1) ≡ true =
      ap₂ (λ a b. is_joined a b right (slice_index text (i + 1 + 1))) far_left near
      ∙ ap (λ b. (is_run mid && is_run right)
      || (is_bridge mid right (slice_index text (i + 1 + 1)) || b)) bridge
      ∙ ap (λ b. (is_run mid && is_run right) || b)
      (or_true (is_bridge mid right (slice_index text (i + 1 + 1))))
      ∙ or_true (is_run mid && is_run right) in
      subst IsOn on (one_on (i + 1) (one_on i walk (omega arith) first) inside second)
    where
      or_true : (b : Bool) → (b || true) ≡ true
      or_true true = refl
      or_true false = refl

  -- a piece ends where no other is joined
  pub IsFirstEnd-cut :
      (i : ℕ) → IsOn i → IsCutAt text i → IsFirstEnd is_ascii_break text start (length text) i
  IsFirstEnd-cut i walk cut =
      IsFirstEnd-at_break is_ascii_break text (IsUtf8-from_ascii text ascii) start (length text) i
      walk (breaks_at-ascii text i ascii cut.within ∙ ap not cut.apart)

-- a byte that is in no run is a piece, and no word
pub words_left-past :
    (text : List ℕ) (i : ℕ) → IsAscii text → i < length text → IsCutAt text i
    → is_run (slice_index text i) ≡ false
    → IsCutAt text (i + 1) × (words_left text i ≡ words_left text (i + 1))
words_left-past text i ascii inside cut none =
    let next = IsCutAt-past text i inside cut none in
    let one : i + 1 - i ≡ 1 = omega arith in
    let piece : slice_range text i (i + 1) ≡ slice_index text i ∷ [] =
    ap (λ n. take n (drop i text)) one ∙ ap (take 1) (drop_more text i 0 inside) in
    let no_word : is_word (slice_range text i (i + 1)) ≡ false =
    ap is_word piece ∙ ap (λ b. b || false) (or_parts (is_ascii_alphanumeric (slice_index text i)) _ none).0 in (
      next,
      words_left-piece text i (i + 1) ascii
          (IsFirstEnd-cut text ascii i (i + 1) (IsOn-start text ascii i inside) next)
          ∙ ap (λ b. cond b (slice_range text i (i + 1) ∷ words_left text (i + 1))
          (words_left text (i + 1))) no_word,
    )

-- Documents one behind the other, of which the first ones meet no limit.
use Rattle.std.proofs.Common.{◌≡◌, ℕ, ◌+◌, ◌<◌, ◌≤◌, nat_lt, nat_le, Bool, true, false, cond, min}
use Rattle.std.proofs.Common.{List, [], ◌∷◌, ◌++◌, length, map, Some, None, vec_len}
use Rattle.std.proofs.Common.{refl, sym, ap, ap₂, ◌∙◌, ⊎_elim, arith}
use Rattle.std.specs.Prelude.{◌&&◌, sum_by}
use Rattle.std.specs.Global.{Vec}
use Rattle.std.specs.List.{AllByRecursion}
use Rattle.std.proofs.lemmas.Bool.{cases_Bool}
use Rattle.std.proofs.lemmas.List.Sums.{sum_by-cons}
use Rattle.std.specs.declared.option.Option.{Option}
use Rattle.ss_base.specs.declared.limits.TheConstants as limits
use Rattle.ss_top.specs.declared.status.LimitHit.{LimitHit}
use Rattle.ss_top.specs.declared.status.LimitHit.TheVariants.{Document, AllDocuments}
use Rattle.ss_top.specs.declared.status.LimitHit.TheVariants.{StopBytes, ScriptBytes, ScriptLines}
use Rattle.ss_top.specs.declared.status.LimitHit.TheVariants.{ScheduleBytes}
use Rattle.ss_top.specs.declared.status.Which.{Which}
use Rattle.ss_top.specs.declared.status.Which.TheVariants as input
use Rattle.ss_top.specs.Limits.{limit_passed, limit_over, limit_at, most_bytes, has_more_lines}
use Rattle.ss_top.specs.Readings.{limited_input}
use Rattle.script_lang.specs.Lines.{lines}
use Rattle.ss_top.specs.Limits.{limit_with}
use Rattle.ss_top.specs.Limits.{first_limit, first_limit_from}

-- what is neither of two limits is the third
neither : (a b : Bool) (x y : LimitHit) (rest : Option LimitHit)
    → cond a (Some x) (cond b (Some y) rest) ≡ None
    → (a ≡ false) × (b ≡ false) × (rest ≡ None)
neither true b x y rest none = cc
neither false true x y rest none = cc
neither false false x y rest none = (refl, refl, none)

third : (a b : Bool) (x y : LimitHit) (rest : Option LimitHit)
    → a ≡ false → b ≡ false → cond a (Some x) (cond b (Some y) rest) ≡ rest
third a b x y rest p q =
    ap (λ t. cond t (Some x) (cond b (Some y) rest)) p ∙ ap (λ t. cond t (Some y) rest) q

-- documents that meet no limit are passed over
pub first_limit_from-append :
    (before i : ℕ) (ds es : List (List ℕ)) → first_limit_from before i ds ≡ None
    → first_limit_from before i (ds ++ es)
    ≡ first_limit_from (before + sum_by length ds) (i + length ds) es
first_limit_from-append before i [] es none =
    let same : before ≡ before + 0 = omega arith in
    let number : i ≡ i + 0 = omega arith in
    ap₂ (λ b n. first_limit_from b n es) same number
first_limit_from-append before i (d ∷ ds) es none =
    let parts = neither _ _ (Document i) (AllDocuments i)
    (first_limit_from (before + length d) (i + 1) ds) none in
    let same : before + length d + sum_by length ds ≡ before + sum_by length (d ∷ ds) =
    omega (arith, sum_by-cons length d ds) in
    let number : i + 1 + length ds ≡ i + length (d ∷ ds) = omega arith in
    third _ _ (Document i) (AllDocuments i) _ parts.0 parts.1
    ∙ first_limit_from-append (before + length d) (i + 1) ds es parts.2
    ∙ ap₂ (λ b n. first_limit_from b n es) same number

and-false : (a : Bool) → (a && false) ≡ false
and-false true = refl
and-false false = refl

module _ (before left i : ℕ) (d : List ℕ) (ds : List (List ℕ))
    (sum : left + before ≡ limits.ALL_DOCUMENT_BYTES) where
  -- what comes behind the document, and what comes where it isn't over its own limit
  abbrev others : Option LimitHit
  others = first_limit_from (before + length d) (i + 1) ds

  abbrev rest : Option LimitHit
  rest = cond (nat_lt limits.ALL_DOCUMENT_BYTES (before + length d)) (Some (AllDocuments i)) others

  -- a document that passes what is left for it, or what is left for all
  pub first_limit_from-passed :
      min left limits.DOCUMENT_BYTES < length d
      → first_limit_from before i (d ∷ ds) ≡ Some (limit_with i left)
  first_limit_from-passed passes =
      ⊎_elim
      (λ room.
      let own : nat_lt limits.DOCUMENT_BYTES (length d) ≡ true = grind arith in
      let fits : nat_le (before + limits.DOCUMENT_BYTES) limits.ALL_DOCUMENT_BYTES ≡ true = grind arith in
      ap₂ (λ a b. cond (a && b) (Some (Document i)) rest) own fits
      ∙ sym (ap (λ b. Some (cond b (Document i) (AllDocuments i))) room))
      (λ none.
      let over : nat_le (before + limits.DOCUMENT_BYTES) limits.ALL_DOCUMENT_BYTES ≡ false = grind arith in
      let passed : nat_lt limits.ALL_DOCUMENT_BYTES (before + length d) ≡ true = grind arith in
      ap (λ b. cond (nat_lt limits.DOCUMENT_BYTES (length d) && b) (Some (Document i)) rest) over
      ∙ ap (λ b. cond b (Some (Document i)) rest) (and-false (nat_lt limits.DOCUMENT_BYTES (length d)))
      ∙ ap (λ b. cond b (Some (AllDocuments i)) others) passed
      ∙ sym (ap (λ b. Some (cond b (Document i) (AllDocuments i))) none))
      (cases_Bool (nat_le limits.DOCUMENT_BYTES left))

  -- a document that doesn't
  pub first_limit_from-within :
      length d ≤ min left limits.DOCUMENT_BYTES
      → first_limit_from before i (d ∷ ds) ≡ first_limit_from (before + length d) (i + 1) ds
  first_limit_from-within within =
      let own : nat_lt limits.DOCUMENT_BYTES (length d) ≡ false = grind arith in
      let all : nat_lt limits.ALL_DOCUMENT_BYTES (before + length d) ≡ false = grind arith in
      third _ _ (Document i) (AllDocuments i) others
      (ap (λ a. a && nat_le (before + limits.DOCUMENT_BYTES) limits.ALL_DOCUMENT_BYTES) own) all

module _ (ds : List (List ℕ)) (left : ℕ) (sum : left + sum_by length ds ≡ limits.ALL_DOCUMENT_BYTES)
    (none : first_limit ds ≡ None) where
  -- the limit of documents of which the first ones meet none
  first_limit-behind :
      (es : List (List ℕ))
      → first_limit (ds ++ es) ≡ first_limit_from (sum_by length ds) (length ds + 1) es
  first_limit-behind es =
      let zero_more : 0 + sum_by length ds ≡ sum_by length ds = omega arith in
      let number : 1 + length ds ≡ length ds + 1 = omega arith in
      first_limit_from-append 0 1 ds es none
      ∙ ap₂ (λ b i. first_limit_from b i es) zero_more number

  -- one document more that meets none
  pub first_limit-push :
      (d : List ℕ) → length d ≤ min left limits.DOCUMENT_BYTES → first_limit (ds ++ d ∷ []) ≡ None
  first_limit-push d within =
      first_limit-behind (d ∷ [])
      ∙ first_limit_from-within (sum_by length ds) left (length ds + 1) d [] sum within

  -- a document that passes what is left, and whatever stands behind it
  pub first_limit-passed :
      (d : List ℕ) (es : List (List ℕ))
      → min left limits.DOCUMENT_BYTES < length d
      → first_limit (ds ++ d ∷ es) ≡ Some (limit_with (length ds + 1) left)
  first_limit-passed d es passes =
      first_limit-behind (d ∷ es)
      ∙ first_limit_from-passed (sum_by length ds) left (length ds + 1) d es sum passes

-- what is within both limits is within the first
within_own :
    (before n : ℕ)
    → (nat_lt limits.DOCUMENT_BYTES n && nat_le (before + limits.DOCUMENT_BYTES) limits.ALL_DOCUMENT_BYTES) ≡ false
    → nat_lt limits.ALL_DOCUMENT_BYTES (before + n) ≡ false → n ≤ limits.DOCUMENT_BYTES
within_own before n own all =
    ⊎_elim
    (λ passes.
    let room : nat_le (before + limits.DOCUMENT_BYTES) limits.ALL_DOCUMENT_BYTES ≡ false = cc in
    grind arith)
    (λ fits. grind arith)
    (cases_Bool (nat_lt limits.DOCUMENT_BYTES n))

-- of documents that meet no limit each is within its own
pub AllByRecursion-within :
    (before i : ℕ) (ds : List (Vec ℕ))
    → first_limit_from before i (map (λ d. d.items) ds) ≡ None
    → AllByRecursion (λ d. vec_len d ≤ limits.DOCUMENT_BYTES) ds
AllByRecursion-within before i [] none = tt
AllByRecursion-within before i (d ∷ ds) none =
    let parts = neither _ _ (Document i) (AllDocuments i)
    (first_limit_from (before + length d.items) (i + 1) (map (λ e. e.items) ds)) none in
    let own = within_own before (length d.items) parts.0 parts.1 in (
      omega (arith, own, d.ok.0),
      AllByRecursion-within (before + length d.items) (i + 1) ds parts.2,
    )

module _ (before left : ℕ) (sum : left + before ≡ limits.ALL_DOCUMENT_BYTES) where
  -- an input of more bytes than are read of it
  pub limit_passed-over :
      (which : Which) (text : List ℕ)
      → most_bytes left which < length text
      → limit_passed before which text ≡ Some (limit_at left which)
  limit_passed-over input.Stop text passes =
      let over : nat_lt limits.STOP_LIST_BYTES (length text) ≡ true = grind arith in
      ap (λ b. cond b (Some StopBytes) None) over
  limit_passed-over (input.Name i) text passes =
      first_limit_from-passed before left i text [] sum passes
  limit_passed-over input.Script text passes =
      let over : nat_lt limits.SCRIPT_BYTES (length text) ≡ true = grind arith in
      ap (λ b. cond b (Some ScriptBytes)
      (limit_over limits.SCRIPT_LINES (length (lines text)) ScriptLines)) over
  limit_passed-over input.Schedule text passes =
      let over : nat_lt limits.SCHEDULE_BYTES (length text) ≡ true = grind arith in
      ap (λ b. cond b (Some ScheduleBytes) None) over

  -- one that has no more
  pub limit_passed-within :
      (which : Which) (text : List ℕ)
      → length text ≤ most_bytes left which → has_more_lines which text ≡ false
      → limit_passed before which text ≡ None
  limit_passed-within input.Stop text within short =
      let fits : nat_lt limits.STOP_LIST_BYTES (length text) ≡ false = grind arith in
      ap (λ b. cond b (Some StopBytes) None) fits
  limit_passed-within (input.Name i) text within short =
      first_limit_from-within before left i text [] sum within
  limit_passed-within input.Script text within short =
      let fits : nat_lt limits.SCRIPT_BYTES (length text) ≡ false = grind arith in
      ap (λ b. cond b (Some ScriptBytes)
      (limit_over limits.SCRIPT_LINES (length (lines text)) ScriptLines)) fits
      ∙ ap (λ b. cond b (Some ScriptLines) None) short
  limit_passed-within input.Schedule text within short =
      let fits : nat_lt limits.SCHEDULE_BYTES (length text) ≡ false = grind arith in
      ap (λ b. cond b (Some ScheduleBytes) None) fits

  -- one that has no more bytes, but more lines, is a script
  pub limit_passed-lines :
      (which : Which) (text : List ℕ)
      → length text ≤ most_bytes left which → has_more_lines which text ≡ true
      → (which ≡ input.Script) × (limit_passed before which text ≡ Some ScriptLines)
  limit_passed-lines input.Stop text within long = cc
  limit_passed-lines (input.Name i) text within long = cc
  limit_passed-lines input.Script text within long =
      let fits : nat_lt limits.SCRIPT_BYTES (length text) ≡ false = grind arith in (
        refl,
        ap (λ b. cond b (Some ScriptBytes)
            (limit_over limits.SCRIPT_LINES (length (lines text)) ScriptLines)) fits
            ∙ ap (λ b. cond b (Some ScriptLines) None) long,
      )
  limit_passed-lines input.Schedule text within long = cc

-- a limit of an input is its own
pub limited_input-limit_at :
    (left : ℕ) (which : Which) → limited_input (limit_at left which) ≡ Some which
limited_input-limit_at left input.Stop = refl
limited_input-limit_at left (input.Name i) =
    elim (nat_le limits.DOCUMENT_BYTES left) as (λ b.
    limited_input (cond b (Document i) (AllDocuments i)) ≡ Some (input.Name i)) [
      | true ↦ refl
      | false ↦ refl
    ]
limited_input-limit_at left input.Script = refl
limited_input-limit_at left input.Schedule = refl

-- a document that passes no limit has no more than is left
pub first_limit_from-left :
    (before i : ℕ) (d : List ℕ)
    → first_limit_from before i (d ∷ []) ≡ None → before + length d ≤ limits.ALL_DOCUMENT_BYTES
first_limit_from-left before i d none =
    let parts = neither _ _ (Document i) (AllDocuments i)
    (first_limit_from (before + length d) (i + 1) []) none in
    grind (arith, parts.1)

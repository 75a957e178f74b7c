-- Generated words and documents, one more.
use Rattle.std.proofs.Common.{◌≡◌, ℕ, zero, suc, ◌+◌, ◌*◌, ◌<◌, ◌≤◌, List, [], ◌∷◌, ◌++◌, map}
use Rattle.std.proofs.Common.{length, drop, sym, ap, ◌∙◌, ⊎_elim, arith, add-one, append-nil}
use Rattle.std.proofs.Common.{append_assoc, length-append, min, false, cond, nat_lt, Some, None}
use Rattle.std.specs.Prelude.{sum_by}
use Rattle.std.proofs.lemmas.Bool.{cases_Bool}
use Rattle.std.specs.List.{flat_map, range_with_len}
use Rattle.std.proofs.lemmas.List.{take-append-drop}
use Rattle.std.proofs.lemmas.List.FromFn.{map-range_with_len_more, take-map-range_with_len}
use Rattle.std.proofs.lemmas.List.FromFn.{length-map-range_with_len, sum_by-map-range_with_len_more}
use Rattle.ss_base.specs.declared.limits.TheConstants as limits
use Rattle.ss_top.specs.declared.status.LimitHit.TheVariants.{Names}
use Rattle.ss_top.specs.Generated.{state_after, state_at, generated_word, generated_document}
use Rattle.ss_top.specs.Generated.{generated_documents, generated_limit}
use Rattle.ss_top.specs.Limits.{limit_with, first_limit}
use Rattle.ss_top.proofs.LimitsLemmas.{first_limit-push, first_limit-passed}
use Rattle.ss_top.proofs.PartsLemmas.{flat_map-append}

pub state_at-more : (x n : ℕ) → state_at x (n + 1) ≡ state_after (state_at x n)
state_at-more x n = ap (state_at x) (add-one n)

pub state_at-add : (x m n : ℕ) → state_at (state_at x m) n ≡ state_at x (m + n)
state_at-add x m zero = let same : m ≡ m + 0 = omega arith in ap (state_at x) same
state_at-add x m (suc n) =
    let same : suc (m + n) ≡ m + suc n = omega arith in
    ap state_after (state_at-add x m n) ∙ ap (state_at x) same

pub generated_document-more :
    (n x : ℕ)
    → generated_document (n + 1) x ≡ generated_document n x ++ generated_word (state_at x (n + 1))
generated_document-more n x =
    ap (flat_map generated_word) (map-range_with_len_more (state_at x) 1 n (n + 1) (omega arith))
    ∙ flat_map-append generated_word (map (state_at x) (range_with_len 1 n))
    (state_at x (n + 1) ∷ [])
    ∙ ap (λ t. generated_document n x ++ t) (append-nil (generated_word (state_at x (n + 1))))

-- a document is at least as long as its first words
pub length-generated_document-le :
    (m n x : ℕ) → m ≤ n → length (generated_document m x) ≤ length (generated_document n x)
length-generated_document-le m n x le =
    let states = map (state_at x) (range_with_len 1 n) in
    let split : generated_document n x
    ≡ generated_document m x ++ flat_map generated_word (drop m states) =
    ap (flat_map generated_word)
    (sym (take-append-drop m states)
    ∙ ap (λ s. s ++ drop m states) (take-map-range_with_len (state_at x) 1 n m le))
    ∙ flat_map-append generated_word (map (state_at x) (range_with_len 1 m)) (drop m states) in
    omega (
      arith,
      ap length split,
      length-append (generated_document m x) (flat_map generated_word (drop m states)),
    )

module _ (words seed : ℕ) where
  -- the document behind so many
  abbrev document_at : ℕ → List ℕ
  document_at i = generated_document words (state_at seed (i * words))

  pub generated_documents-more :
      (n : ℕ)
      → generated_documents (n + 1) words seed
      ≡ generated_documents n words seed ++ document_at n ∷ []
  generated_documents-more n = map-range_with_len_more document_at 0 n n (omega arith)

  -- the documents before one, that one, and those behind it
  pub generated_documents-split :
      (n docs : ℕ) → n < docs
      → generated_documents docs words seed
      ≡ generated_documents n words seed
      ++ document_at n ∷ drop (n + 1) (generated_documents docs words seed)
  generated_documents-split n docs less =
      let all = generated_documents docs words seed in
      sym (take-append-drop (n + 1) all)
      ∙ ap (λ ds. ds ++ drop (n + 1) all)
      (take-map-range_with_len document_at 0 docs (n + 1) (omega arith)
      ∙ generated_documents-more n)
      ∙ append_assoc (generated_documents n words seed) (document_at n ∷ []) (drop (n + 1) all)

  -- where they aren't too many
  pub generated_limit-few :
      (docs : ℕ) → docs ≤ limits.NAMES
      → generated_limit docs words seed ≡ first_limit (generated_documents docs words seed)
  generated_limit-few docs few =
      let fits : nat_lt limits.NAMES docs ≡ false = grind arith in
      ap (λ b. cond b (Some (Names docs)) (first_limit (generated_documents docs words seed))) fits

  pub sum_by-generated_documents-more :
      (n : ℕ)
      → sum_by length (generated_documents (n + 1) words seed)
      ≡ sum_by length (generated_documents n words seed) + length (document_at n)
  sum_by-generated_documents-more n =
      sum_by-map-range_with_len_more length document_at 0 n n (omega arith)

  module _ (n left : ℕ)
      (sum : left + sum_by length (generated_documents n words seed) ≡ limits.ALL_DOCUMENT_BYTES)
      (none : first_limit (generated_documents n words seed) ≡ None) where
    -- one document more that meets none
    pub first_limit-more :
        length (document_at n) ≤ min left limits.DOCUMENT_BYTES
        → first_limit (generated_documents (n + 1) words seed) ≡ None
    first_limit-more within =
        ap first_limit (generated_documents-more n)
        ∙ first_limit-push (generated_documents n words seed) left sum none (document_at n) within

    -- a document that passes what is left
    pub generated_limit-met :
        (docs : ℕ) → n < docs → docs ≤ limits.NAMES
        → min left limits.DOCUMENT_BYTES < length (document_at n)
        → generated_limit docs words seed ≡ Some (limit_with (n + 1) left)
    generated_limit-met docs less few passes =
        let rest = drop (n + 1) (generated_documents docs words seed) in
        let number : length (generated_documents n words seed) + 1 ≡ n + 1 =
        omega (arith, length-map-range_with_len document_at 0 n) in
        generated_limit-few docs few
        ∙ ap first_limit (generated_documents-split n docs less)
        ∙ first_limit-passed (generated_documents n words seed) left sum none (document_at n) rest
        passes
        ∙ ap (λ i. Some (limit_with i left)) number

  pub length-generated_documents : (n : ℕ) → length (generated_documents n words seed) ≡ n
  length-generated_documents n = length-map-range_with_len document_at 0 n

  -- documents that meet no limit aren't too many
  pub generated_limit-none :
      (docs : ℕ) → generated_limit docs words seed ≡ None
      → (docs ≤ limits.NAMES) × (first_limit (generated_documents docs words seed) ≡ None)
  generated_limit-none docs none =
      ⊎_elim
      (λ over. let some : generated_limit docs words seed ≡ Some (Names docs) =
      ap (λ b. cond b (Some (Names docs)) (first_limit (generated_documents docs words seed))) over
      in cc)
      (λ fits. let few : docs ≤ limits.NAMES = grind arith in
      (few, sym (generated_limit-few docs few) ∙ none))
      (cases_Bool (nat_lt limits.NAMES docs))

-- The finite map of entries, at the number of a text and with one text more.
use Rattle.std.proofs.Common.{◌≡◌, ℕ, zero, suc, ◌<◌, List, [], ◌∷◌, ◌++◌, length, set, get_or}
use Rattle.std.proofs.Common.{Bool, true, false, cond, Option, Some, None}
use Rattle.std.proofs.Common.{◌+◌, refl, sym, ◌∙◌, ap, subst, arith}
use Rattle.std.specs.FinMap as finite
use Rattle.std.specs.FinMap.{find, IsAntisymmetric}
use Rattle.std.specs.FinMap.{nat_cmp-IsAntisymmetric, slice_cmp-IsAntisymmetric}
use Rattle.std.specs.Cmp.{IsTotalOrder}
use Rattle.std.specs.Cmp.Lexicographic.{nat_list_cmp_total}
use Rattle.std.specs.List.{slice_get, zip}
use Rattle.std.specs.Map.{keys_of, values_of}
use Rattle.std.specs.Option.{option_map, is_some}
use Rattle.std.specs.Ordering.{eq_by_cmp}
use Rattle.std.specs.Str.{bytes_eq}
use Rattle.std.proofs.lemmas.Map.Text.{is_eq-slice_cmp}
use Rattle.std.proofs.lemmas.Map.Views.{tells_apart}
use Rattle.std.proofs.lemmas.Bool.{false_from_ne_true, false≢true}
use Rattle.std.proofs.lemmas.List.{get_or-map}
use Rattle.std.proofs.lemmas.Map.Entries.{length-keys_of, length-values_of}
use Rattle.std.proofs.lemmas.Map.Made.{keys_of-zip}
use Rattle.std.proofs.lemmas.Option.{none-some, same_Some, slice_get_within, slice_get-get_or}
use Rattle.std.proofs.lemmas.Slice.Zip.{length-zip, seconds-zip}
use Rattle.std.proofs.lemmas.Slice.Eq.{bytes_eq-Decides}
use Rattle.text_table.specs.TextTables.{number_of, AreDistinct}
use Rattle.text_table.specs.TextMaps.{text_order, map_of, with_value}
use Rattle.text_table.proofs.TextTablesLemmas.{number_of-cons, number_of-nil, number_of-at}
use Rattle.text_table.proofs.TextTablesLemmas.{AreDistinct-first, slice_get-number}

-- ---- the order of texts

pub text_order_total : IsTotalOrder text_order
text_order_total = nat_list_cmp_total

pub text_order_exact : IsAntisymmetric text_order
text_order_exact = slice_cmp-IsAntisymmetric nat_cmp-IsAntisymmetric

module _ {V : Type 0} where
  -- ---- a look-up, by the text's number

  -- the value of a number, where there is one
  abbrev pub value_at : List (List ℕ × V) → Option ℕ → Option V
  value_at entries None = None
  value_at entries (Some number) = slice_get (values_of entries) number

  value_behind : (entry : List ℕ × V) (rest : List (List ℕ × V)) (o : Option ℕ)
      → value_at (entry ∷ rest) (option_map suc o) ≡ value_at rest o
  value_behind entry rest None = refl
  value_behind entry rest (Some n) = refl

  find-number_of : (q : List ℕ) (entries : List (List ℕ × V))
      → find text_order q entries ≡ value_at entries (number_of (keys_of entries) q)
  find-number_of q [] = ap (value_at []) (sym (number_of-nil q))
  find-number_of q (entry ∷ rest) =
      let others = number_of (keys_of rest) q in
      ap (λ b. cond b (Some entry.1) (find text_order q rest)) (is_eq-slice_cmp q entry.0)
      ∙ elim (bytes_eq q entry.0) as (λ b. cond b (Some entry.1) (find text_order q rest)
      ≡ value_at (entry ∷ rest) (cond b (Some 0) (option_map suc others))) [
        | true ↦ refl
        | false ↦ find-number_of q rest ∙ sym (value_behind entry rest others)
      ]
      ∙ ap (value_at (entry ∷ rest)) (sym (number_of-cons entry.0 q (keys_of rest)))

  -- what the map has at a text is the value of the text's number
  pub get-map_of : (q : List ℕ) (entries : List (List ℕ × V))
      → finite.get (map_of entries) q ≡ value_at entries (number_of (keys_of entries) q)
  get-map_of q entries =
      finite.get-from_entries text_order_total entries q ∙ find-number_of q entries

  -- each entry is found, where no text stands twice
  pub get-at : (entries : List (List ℕ × V)) (n : ℕ) (d : List ℕ × V)
      → AreDistinct (keys_of entries) → n < length entries
      → finite.get (map_of entries) (get_or entries n d).0 ≡ Some (get_or entries n d).1
  get-at entries n d distinct within =
      let entry = get_or entries n d in
      let key = get_or-map (λ (e : List ℕ × V). e.0) entries n d entry.0 within in
      let value = get_or-map (λ (e : List ℕ × V). e.1) entries n d entry.1 within in
      let place = number_of-at (keys_of entries) entry.0 n distinct
      (slice_get-get_or (keys_of entries) n entry.0 (omega (arith, length-keys_of entries))
      ∙ ap Some key) in
      get-map_of entry.0 entries
      ∙ ap (value_at entries) place
      ∙ slice_get-get_or (values_of entries) n entry.1 (omega (arith, length-values_of entries))
      ∙ ap Some value

  -- ---- one text more

  pub map_of-push : (entries : List (List ℕ × V)) (t : List ℕ) (v : V)
      → number_of (keys_of entries) t ≡ None
      → map_of (entries ++ (t, v) ∷ []) ≡ finite.insert (map_of entries) t v
  map_of-push entries t v none =
      finite.from_entries_push text_order_total text_order_exact entries t v
      (find-number_of t entries ∙ ap (value_at entries) none)

  -- ---- another value

  written_first : (b : Bool) (x y z : Option V) → cond b x z ≡ cond b x (cond b y z)
  written_first true x y z = refl
  written_first false x y z = refl

  apart : (a b : Bool) (x y z : Option V) → ((a ≡ true) → b ≡ false)
      → cond a x (cond b y z) ≡ cond b y (cond a x z)
  apart true b x y z other = ap (λ c. cond c y x) (sym (other refl)) ∙ cc
  apart false b x y z other = refl

  find-with_value : (q t : List ℕ) (entries : List (List ℕ × V)) (n : ℕ) (v : V)
      → number_of (keys_of entries) t ≡ Some n
      → find text_order q (with_value entries n v)
      ≡ cond (eq_by_cmp text_order q t) (Some v) (find text_order q entries)
  find-with_value q t [] n v is = absurd (none-some n (sym (number_of-nil t) ∙ is))
  find-with_value q t (entry ∷ rest) n v is =
      let others = number_of (keys_of rest) t in
      let is_first = eq_by_cmp text_order q entry.0 in
      let is_text = eq_by_cmp text_order q t in
      let found = find text_order q rest in
      let Written = λ (n : ℕ). find text_order q (with_value (entry ∷ rest) n v)
      ≡ cond is_text (Some v) (cond is_first (Some entry.1) found) in
      elim (bytes_eq t entry.0) as (λ b. bytes_eq t entry.0 ≡ b
      → cond b (Some 0) (option_map suc others) ≡ Some n → Written n) [
        | true ↦ λ same at.
            let first : entry.0 ≡ t = sym ((bytes_eq-Decides t entry.0).0 same) in
            subst Written (same_Some 0 n at)
            (written_first is_first (Some v) (Some entry.1) found
            ∙ ap (λ k. cond (eq_by_cmp text_order q k) (Some v) (cond is_first (Some entry.1) found))
            first)
        | false ↦ λ differ at. elim others as (λ o. others ≡ o
            → option_map suc o ≡ Some n → Written n) [
              | None ↦ λ _ none. absurd (none-some n none)
              | Some m ↦ λ behind number.
                  subst Written (same_Some (suc m) n number)
                  (ap (cond is_first (Some entry.1)) (find-with_value q t rest m v behind)
                  ∙ apart is_first is_text (Some entry.1) (Some v) found (λ one.
                  false_from_ne_true is_text (λ other. false≢true (sym differ
                  ∙ (bytes_eq-Decides t entry.0).1
                  (sym (tells_apart text_order_exact q t other)
                  ∙ tells_apart text_order_exact q entry.0 one)))))
            ] refl at
      ] refl (sym (number_of-cons entry.0 t (keys_of rest)) ∙ is)

  pub map_of-with_value : (entries : List (List ℕ × V)) (t : List ℕ) (n : ℕ) (v : V)
      → number_of (keys_of entries) t ≡ Some n
      → map_of (with_value entries n v) ≡ finite.insert (map_of entries) t v
  map_of-with_value entries t n v is =
      finite.same_map text_order_total text_order_exact _ _ (λ q.
      finite.get-from_entries text_order_total (with_value entries n v) q
      ∙ find-with_value q t entries n v is
      ∙ sym (finite.get-insert text_order_total (map_of entries) t v q
      ∙ ap (cond (eq_by_cmp text_order q t) (Some v))
      (finite.get-from_entries text_order_total entries q)))

  -- the value that stands there already changes nothing
  pub with_value-same : (entries : List (List ℕ × V)) (n : ℕ) (v : V)
      → slice_get (values_of entries) n ≡ Some v → with_value entries n v ≡ entries
  with_value-same [] n v at = refl
  with_value-same (entry ∷ rest) zero v at =
      ap (λ w. (entry.0, w) ∷ rest) (sym (same_Some entry.1 v at))
  with_value-same (entry ∷ rest) (suc n) v at =
      ap (λ es. entry ∷ es) (with_value-same rest n v at)

  -- ---- how many texts there are

  pub len-map_of : (entries : List (List ℕ × V)) → AreDistinct (keys_of entries)
      → finite.len (map_of entries) ≡ length entries
  len-map_of [] distinct = finite.len-empty text_order V
  len-map_of (entry ∷ rest) distinct =
      let first = AreDistinct-first entry.0 (keys_of rest) distinct in
      let others = map_of rest in
      let one_more : finite.len others + 1 ≡ length (entry ∷ rest) =
      omega (arith, len-map_of rest first.1) in
      finite.len-insert text_order_total others entry.0 entry.1
      ∙ ap (λ o. cond (is_some o) (finite.len others) (finite.len others + 1))
      (get-map_of entry.0 rest ∙ ap (value_at rest) first.0)
      ∙ one_more

  -- ---- entries as a map keeps them: the texts, and a value for each

  pub with_value-zip : (ts : List (List ℕ)) (vs : List V) (n : ℕ) (v : V)
      → zip ts (set vs n v) ≡ with_value (zip ts vs) n v
  with_value-zip [] vs n v = refl
  with_value-zip (t ∷ ts) [] n v = refl
  with_value-zip (t ∷ ts) (w ∷ vs) zero v = refl
  with_value-zip (t ∷ ts) (w ∷ vs) (suc n) v = ap (λ es. (t, w) ∷ es) (with_value-zip ts vs n v)

  pub zip-entries : (entries : List (List ℕ × V)) → zip (keys_of entries) (values_of entries) ≡ entries
  zip-entries [] = refl
  zip-entries (entry ∷ rest) = ap (λ es. entry ∷ es) (zip-entries rest)

  pub zip-push : (ts : List (List ℕ)) (vs : List V) (t : List ℕ) (v : V)
      → length ts ≡ length vs → zip (ts ++ t ∷ []) (vs ++ v ∷ []) ≡ zip ts vs ++ (t, v) ∷ []
  zip-push [] [] t v paired = refl
  zip-push [] (w ∷ vs) t v paired = absurd (omega arith)
  zip-push (u ∷ ts) [] t v paired = absurd (omega arith)
  zip-push (u ∷ ts) (w ∷ vs) t v paired =
      ap (λ es. (u, w) ∷ es) (zip-push ts vs t v (omega arith))

  slice_get-zip : (ts : List (List ℕ)) (vs : List V) (n : ℕ) (t : List ℕ) (v : V)
      → slice_get ts n ≡ Some t → slice_get vs n ≡ Some v → slice_get (zip ts vs) n ≡ Some (t, v)
  slice_get-zip [] vs n t v at_text at_value = absurd (cc)
  slice_get-zip (u ∷ ts) [] n t v at_text at_value = absurd (cc)
  slice_get-zip (u ∷ ts) (w ∷ vs) zero t v at_text at_value = cc
  slice_get-zip (u ∷ ts) (w ∷ vs) (suc n) t v at_text at_value =
      slice_get-zip ts vs n t v at_text at_value

  module _ (ts : List (List ℕ)) (vs : List V) (entries : List (List ℕ × V))
      (paired : length ts ≡ length vs) (seen : zip ts vs ≡ entries) where
    pub texts_kept : ts ≡ keys_of entries
    texts_kept = sym (keys_of-zip ts vs (sym paired)) ∙ ap keys_of seen

    pub values_kept : vs ≡ values_of entries
    values_kept = sym (seconds-zip ts vs (sym paired)) ∙ ap values_of seen

    pub length_kept : length ts ≡ length entries
    length_kept = omega (arith, length-zip ts vs, paired, ap length seen)

    pub number_of-kept : (text : List ℕ) → number_of ts text ≡ number_of (keys_of entries) text
    number_of-kept text = ap (λ texts. number_of texts text) texts_kept

    -- a number of a text is that of a value
    pub number_within : (text : List ℕ) (n : ℕ) → number_of ts text ≡ Some n → n < length vs
    number_within text n is =
        omega (arith, paired, slice_get_within ts n text (slice_get-number ts text n is))

    pub value_kept : (n : ℕ) (v : V) → n < length vs → v ≡ get_or vs n v
        → slice_get (values_of entries) n ≡ Some v
    value_kept n v within is =
        ap (λ values. slice_get values n) (sym values_kept)
        ∙ slice_get-get_or vs n v within ∙ ap Some (sym is)

    pub entry_kept : (n : ℕ) (t : List ℕ) (v : V) → slice_get ts n ≡ Some t → n < length vs
        → v ≡ get_or vs n v → slice_get entries n ≡ Some (t, v)
    entry_kept n t v at within is =
        ap (λ es. slice_get es n) (sym seen)
        ∙ slice_get-zip ts vs n t v at (slice_get-get_or vs n v within ∙ ap Some (sym is))

    pub get-kept : (text : List ℕ) (n : ℕ) (v : V) → number_of ts text ≡ Some n
        → v ≡ get_or vs n v → finite.get (map_of entries) text ≡ Some v
    get-kept text n v is value =
        get-map_of text entries
        ∙ ap (value_at entries) (sym (number_of-kept text) ∙ is)
        ∙ value_kept n v (number_within text n is) value

    pub get-absent : (text : List ℕ) → number_of ts text ≡ None
        → finite.get (map_of entries) text ≡ None
    get-absent text none =
        get-map_of text entries ∙ ap (value_at entries) (sym (number_of-kept text) ∙ none)

-- What keeps a look-up right: buckets that hold what others held, and a text that is added.
use Rattle.std.proofs.Common.{◌≡◌, ◌≢◌, ◌⊎◌, ℕ, ◌<◌, ◌≤◌, ◌^◌, List, [], ◌∷◌, ◌++◌, length}
use Rattle.std.proofs.Common.{Some, None, cond, Bool, true, false, sym, ◌∙◌, ap, subst}
use Rattle.std.proofs.Common.{inl, inr, ⊎_elim, arith, String, string_bytes, refl, Option}
use Rattle.std.proofs.lemmas.List.Elements.{All-contains}
use Rattle.std.proofs.lemmas.Bool.{cases_lt, false_from_ne_true}
use Rattle.std.proofs.lemmas.List.{get_or_append_left, get_or_push, length_push}
use Rattle.std.proofs.lemmas.Option.{slice_get_within, get_or_from_slice_get, slice_get-get_or}
use Rattle.std.proofs.lemmas.Option.{same_Some}
use Rattle.std.proofs.lemmas.Map.Text.{is_eq-slice_cmp}
use Rattle.std.proofs.lemmas.Slice.Eq.{bytes_eq-Decides}
use Rattle.std.specs.BTreeMap.{BTreeMap, get_by_text, is_at}
use Rattle.std.specs.Cmp.Lexicographic.{slice_cmp}
use Rattle.std.specs.Map.{lookup}
use Rattle.std.specs.Ordering.{is_eq, nat_cmp}
use Rattle.std.specs.List.{All, AllZip, slice_get}
use Rattle.std.specs.Str.{bytes_eq}
use Rattle.text_table.specs.Buckets.{bucket_of, slot_of, Holds, AreHeldBy}
use Rattle.text_table.specs.Buckets.{IsFull, IsHeldOrFull, StayFull}
use Rattle.text_table.specs.Lookups.{IsFound, FindsTexts}
use Rattle.text_table.specs.Tags.{tag_of}
use Rattle.text_table.specs.TextTables.{number_of}
use Rattle.text_table.specs.declared.buckets.Slot.{Slot}
use Rattle.text_table.specs.declared.buckets.TheConstants.{NO_NUMBER}
use Rattle.text_table.proofs.BucketsLemmas.{IsHeldOrFull-later}
use Rattle.text_table.proofs.TextTablesLemmas.{AreDistinct-added, number_of-at, number_of-none}
use Rattle.text_table.proofs.TextTablesLemmas.{nowhere-from_none}

module _ (texts : List (List ℕ)) where
  -- no number of a text marks a free place
  pub number_taken : (n : ℕ) (text : List ℕ) → length texts < 2 ^ 32 → slice_get texts n ≡ Some text
      → n ≢ NO_NUMBER
  number_taken n text few at same =
      let within = slice_get_within texts n text at in
      omega arith

  -- what stands in a list with one text more
  at_added : (added : List ℕ) (n : ℕ) (text : List ℕ)
      → slice_get (texts ++ added ∷ []) n ≡ Some text
      → (slice_get texts n ≡ Some text) ⊎ ((n ≡ length texts) × (text ≡ added))
  at_added added n text at =
      let more = texts ++ added ∷ [] in
      let within = slice_get_within more n text at in
      let is = get_or_from_slice_get more n text text at in
      ⊎_elim
      (λ (before : n < length texts).
      inl (slice_get-get_or texts n text before
      ∙ ap Some (sym (get_or_append_left texts (added ∷ []) text n before) ∙ is)))
      (λ (from : length texts ≤ n).
      let last : n ≡ length texts = omega (arith, length_push texts added) in
      inr (last, sym is ∙ get_or_push texts added text n (sym last)))
      (cases_lt n (length texts))

  at_kept : (added : List ℕ) (n : ℕ) (text : List ℕ) → slice_get texts n ≡ Some text
      → slice_get (texts ++ added ∷ []) n ≡ Some text
  at_kept added n text at =
      let within = slice_get_within texts n text at in
      let more = texts ++ added ∷ [] in
      slice_get-get_or more n text (omega (arith, length_push texts added))
      ∙ ap Some (get_or_append_left texts (added ∷ []) text n within
      ∙ get_or_from_slice_get texts n text text at)

  at_end : (added : List ℕ) → slice_get (texts ++ added ∷ []) (length texts) ≡ Some added
  at_end added =
      slice_get-get_or (texts ++ added ∷ []) (length texts) added
      (omega (arith, length_push texts added))
      ∙ ap Some (get_or_push texts added added (length texts) refl)

-- keys with the bytes of others, and their numbers, are looked up alike
lookup-clone : {A : Type 0} {D : ℕ → ℕ → Type 0} → ((n m : ℕ) → D n m → m ≡ n)
    → (test : List ℕ → Bool) (es fs : List (String A × ℕ))
    → AllZip (λ p q. (string_bytes q.0 ≡ string_bytes p.0) × D p.1 q.1) es fs
    → lookup (λ k. test (string_bytes k)) fs ≡ lookup (λ k. test (string_bytes k)) es
lookup-clone same test [] [] zip = refl
lookup-clone same test [] (f ∷ fs) zip = absurd zip
lookup-clone same test (e ∷ es) [] zip = absurd zip
lookup-clone same test (e ∷ es) (f ∷ fs) zip = λ i.
    cond (test (zip.0.0 i)) (Some (same e.1 f.1 zip.0.1 i)) (lookup-clone same test es fs zip.1 i)

module _ {A : Type 0} where
  pub get_by_text-clone : (overflow copy : BTreeMap (String A) ℕ) {D : ℕ → ℕ → Type 0}
      → ((n m : ℕ) → D n m → m ≡ n)
      → AllZip (λ p q. (string_bytes q.0 ≡ string_bytes p.0) × D p.1 q.1)
      overflow.entries copy.entries
      → (key : List ℕ) → get_by_text copy key ≡ get_by_text overflow key
  get_by_text-clone overflow copy same zip key =
      lookup-clone same (λ bytes. is_eq (slice_cmp nat_cmp key bytes))
      overflow.entries copy.entries zip

  pub get_by_text-unchanged : (overflow after : BTreeMap (String A) ℕ)
      → after.entries ≡ overflow.entries
      → (key : List ℕ) → get_by_text after key ≡ get_by_text overflow key
  get_by_text-unchanged overflow after same key =
      ap (lookup (is_at (λ k. slice_cmp nat_cmp key (string_bytes k)))) same

  -- what the overflow has for a text, if the text's bucket is full
  abbrev IsOver : List (List Slot) → BTreeMap (String A) ℕ → List ℕ → ℕ → Type 0
  IsOver buckets overflow text n =
      IsFull (bucket_of buckets (tag_of text)) × (get_by_text overflow text ≡ Some n)

  -- an overflow with the same look-ups does as well
  pub FindsTexts-alike : (texts : List (List ℕ)) (buckets : List (List Slot))
      (overflow other : BTreeMap (String A) ℕ)
      → ((key : List ℕ) → get_by_text other key ≡ get_by_text overflow key)
      → FindsTexts texts buckets overflow → FindsTexts texts buckets other
  FindsTexts-alike texts buckets overflow other alike finds = record {
    distinct = finds.distinct;
    few = finds.few;
    found = λ text n at.
        ⊎_elim
        (λ (holds : Holds buckets (tag_of text) n). inl holds)
        (λ (over : IsOver buckets overflow text n). inr (over.0, alike text ∙ over.1))
        (finds.found text n at);
    overflow_sound = λ text n over. finds.overflow_sound text n (sym (alike text) ∙ over);
  }

  module _ (texts : List (List ℕ)) (buckets : List (List Slot))
      (overflow : BTreeMap (String A) ℕ) (text : List ℕ)
      (finds : FindsTexts texts buckets overflow)
      (missed : All (λ slot. slot.tag ≡ tag_of text → slice_get texts slot.number ≢ Some text)
      (bucket_of buckets (tag_of text))) where
    not_held : (n : ℕ) → slice_get texts n ≡ Some text → Holds buckets (tag_of text) n → ⊥
    not_held n at holds =
        All-contains (λ slot. slot.tag ≡ tag_of text → slice_get texts slot.number ≢ Some text)
        (bucket_of buckets (tag_of text)) (slot_of (tag_of text) n) missed holds refl at

    -- the overflow answers for each text that is not in its bucket
    pub get_by_text-number_of : get_by_text overflow text ≡ number_of texts text
    get_by_text-number_of =
        elim (get_by_text overflow text) as (λ o. get_by_text overflow text ≡ o
        → o ≡ number_of texts text) [
          | Some n ↦ λ over.
              sym (number_of-at texts text n finds.distinct (finds.overflow_sound text n over))
          | None ↦ λ none. sym (number_of-none texts text (λ n at.
              ⊎_elim
              (λ (holds : Holds buckets (tag_of text) n). not_held n at holds)
              (λ (over : IsOver buckets overflow text n).
              let both : None ≡ Some n = sym none ∙ over.1 in cc)
              (finds.found text n at)))
        ] refl

    -- a text that is not in its bucket has no number where that has a free place
    pub none-number_of : (IsFull (bucket_of buckets (tag_of text)) → ⊥)
        → None ≡ number_of texts text
    none-number_of free =
        sym (number_of-none texts text (λ n at.
        ⊎_elim
        (λ (holds : Holds buckets (tag_of text) n). not_held n at holds)
        (λ (over : IsOver buckets overflow text n). free over.0)
        (finds.found text n at)))

  -- where a text stands among entries
  abbrev pub entry_of : List (String A × ℕ) → List ℕ → Option ℕ
  entry_of entries text = lookup (is_at (λ k. slice_cmp nat_cmp text (string_bytes k))) entries

  -- each entry's number stands in its bucket or that is full, or else it is among those to come
  abbrev pub ArePlacedUnless : List (String A × ℕ) → List (String A × ℕ) → List (List Slot)
      → Type 0
  ArePlacedUnless coming entries buckets =
      (text : List ℕ) (n : ℕ) → entry_of entries text ≡ Some n
      → IsHeldOrFull buckets (tag_of text) n ⊎ (entry_of coming text ≡ Some n)

  -- the entry that came next was put
  pub ArePlacedUnless-next : (key : String A) (number : ℕ) (coming entries : List (String A × ℕ))
      (before after : List (List Slot))
      → AreHeldBy before after → StayFull before after
      → IsHeldOrFull after (tag_of (string_bytes key)) number
      → ArePlacedUnless ((key, number) ∷ coming) entries before
      → ArePlacedUnless coming entries after
  ArePlacedUnless-next key number coming entries before after held still put placed text n over =
      ⊎_elim
      (λ (was : IsHeldOrFull before (tag_of text) n).
      inl (IsHeldOrFull-later before after held still (tag_of text) n was))
      (λ (at : entry_of ((key, number) ∷ coming) text ≡ Some n).
      elim (bytes_eq text (string_bytes key)) as (λ b. bytes_eq text (string_bytes key) ≡ b
      → cond b (Some number) (entry_of coming text) ≡ Some n
      → IsHeldOrFull after (tag_of text) n ⊎ (entry_of coming text ≡ Some n)) [
        | true ↦ λ same is.
            inl (subst (λ t. IsHeldOrFull after (tag_of t) n)
            (sym ((bytes_eq-Decides text (string_bytes key)).0 same))
            (subst (IsHeldOrFull after (tag_of (string_bytes key))) (same_Some number n is) put))
        | false ↦ λ _ is. inr is
      ] refl
      (ap (λ b. cond b (Some number) (entry_of coming text))
      (sym (is_eq-slice_cmp text (string_bytes key))) ∙ at))
      (placed text n over)

  -- no entry is to come
  pub ArePlacedUnless-end : (coming entries : List (String A × ℕ))
      (overflow : BTreeMap (String A) ℕ) (buckets : List (List Slot))
      → coming ≡ [] → entries ≡ overflow.entries
      → ArePlacedUnless coming entries buckets
      → (text : List ℕ) (n : ℕ) → get_by_text overflow text ≡ Some n
      → IsHeldOrFull buckets (tag_of text) n
  ArePlacedUnless-end coming entries overflow buckets none all placed text n over =
      ⊎_elim
      (λ (put : IsHeldOrFull buckets (tag_of text) n). put)
      (λ (at : entry_of coming text ≡ Some n).
      let both : None ≡ Some n = sym (ap (λ es. entry_of es text) none) ∙ at in cc)
      (placed text n (ap (λ es. entry_of es text) all ∙ over))

  module _ (texts : List (List ℕ)) (buckets after : List (List Slot))
      (overflow : BTreeMap (String A) ℕ) (finds : FindsTexts texts buckets overflow)
      (held : AreHeldBy buckets after)
      (placed : (text : List ℕ) (n : ℕ) → IsOver buckets overflow text n
      → IsHeldOrFull after (tag_of text) n) where
    found_later : (text : List ℕ) (n : ℕ) → slice_get texts n ≡ Some text
        → IsFound after overflow text n
    found_later text n at =
        let taken = number_taken texts n text finds.few at in
        ⊎_elim
        (λ (holds : Holds buckets (tag_of text) n). inl (held (tag_of text) n taken holds))
        (λ (over : IsOver buckets overflow text n).
        ⊎_elim
        (λ (holds : Holds after (tag_of text) n). inl holds)
        (λ (full : IsFull (bucket_of after (tag_of text))). inr (full, over.1))
        (placed text n over taken))
        (finds.found text n at)

    -- the buckets may be replaced
    pub FindsTexts-moved : FindsTexts texts after overflow
    FindsTexts-moved = record {
      distinct = finds.distinct;
      few = finds.few;
      found = found_later;
      overflow_sound = finds.overflow_sound;
    }

    module _ (added : List ℕ) (few : length (texts ++ added ∷ []) < 2 ^ 32)
        (new : number_of texts added ≡ None) where
      other : (text : List ℕ) (n : ℕ) → slice_get texts n ≡ Some text
          → bytes_eq added text ≡ false
      other text n at =
          false_from_ne_true (bytes_eq added text) (λ same.
          nowhere-from_none texts added new n
          (at ∙ ap Some (sym ((bytes_eq-Decides added text).0 same))))

      -- a text may be added whose number was put into its bucket
      pub FindsTexts-put : Holds after (tag_of added) (length texts)
          → FindsTexts (texts ++ added ∷ []) after overflow
      FindsTexts-put holds = record {
        distinct = AreDistinct-added texts added finds.distinct new;
        few = few;
        found = λ text n at.
            ⊎_elim
            (λ (before : slice_get texts n ≡ Some text). found_later text n before)
            (λ (last : (n ≡ length texts) × (text ≡ added)).
            inl (subst (λ t. Holds after (tag_of t) n) (sym last.1)
            (subst (Holds after (tag_of added)) (sym last.0) holds)))
            (at_added texts added n text at);
        overflow_sound = λ text n over.
            at_kept texts added n text (finds.overflow_sound text n over);
      }

      -- a text may be added whose number was put into the overflow
      pub FindsTexts-put_over : (more : BTreeMap (String A) ℕ)
          → IsFull (bucket_of after (tag_of added))
          → ((key : List ℕ) → get_by_text more key
          ≡ cond (bytes_eq added key) (Some (length texts)) (get_by_text overflow key))
          → FindsTexts (texts ++ added ∷ []) after more
      FindsTexts-put_over more full put = record {
        distinct = AreDistinct-added texts added finds.distinct new;
        few = few;
        found = λ text n at.
            ⊎_elim
            (λ (before : slice_get texts n ≡ Some text).
            ⊎_elim
            (λ (holds : Holds after (tag_of text) n). inl holds)
            (λ (over : IsOver after overflow text n).
            inr (
              over.0,
              put text ∙ ap (λ b. cond b (Some (length texts)) (get_by_text overflow text))
                  (other text n before) ∙ over.1,
            ))
            (found_later text n before))
            (λ (last : (n ≡ length texts) × (text ≡ added)).
            inr (
              subst (λ t. IsFull (bucket_of after (tag_of t))) (sym last.1) full,
              put text ∙ ap (λ b. cond b (Some (length texts)) (get_by_text overflow text))
                  ((bytes_eq-Decides added text).1 (sym last.1)) ∙ ap Some (sym last.0),
            ))
            (at_added texts added n text at);
        overflow_sound = λ text n over.
            elim (bytes_eq added text) as (λ b. bytes_eq added text ≡ b
            → cond b (Some (length texts)) (get_by_text overflow text) ≡ Some n
            → slice_get (texts ++ added ∷ []) n ≡ Some text) [
              | true ↦ λ same is.
                  subst (λ t. slice_get (texts ++ added ∷ []) n ≡ Some t)
                  ((bytes_eq-Decides added text).0 same)
                  (subst (λ k. slice_get (texts ++ added ∷ []) k ≡ Some added)
                  (same_Some (length texts) n is) (at_end texts added))
              | false ↦ λ _ is. at_kept texts added n text (finds.overflow_sound text n is)
            ] refl (sym (put text) ∙ over);
      }

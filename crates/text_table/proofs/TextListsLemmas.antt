-- A string that grows at its end keeps the texts that stand in it.
use Rattle.std.proofs.Common.{◌≡◌, ℕ, ◌+◌, ◌-◌, ◌<◌, ◌≤◌, ◌^◌, List, [], ◌∷◌, ◌++◌, map, length}
use Rattle.std.proofs.Common.{get_or, take, drop, refl, sym, ◌∙◌, ap, ap₂, subst, ⊎_elim, arith}
use Rattle.std.proofs.Common.{length-append}
use Rattle.std.proofs.lemmas.Bool.{cases_lt}
use Rattle.std.proofs.lemmas.List.{drop-append-le, take-append-le, get_or_append_left, drop_at}
use Rattle.std.proofs.lemmas.List.{take_all, length-drop, map_push, length_push}
use Rattle.std.proofs.lemmas.List.Elements.{All-head, All-tail, All-weaker, All-push}
use Rattle.std.proofs.lemmas.Str.{IsCharBoundary-at_seam, IsCharBoundary-end}
use Rattle.std.specs.List.{All}
use Rattle.std.specs.Str.{IsUtf8, IsCharBoundary}
use Rattle.text_table.specs.TextLists.{text_at, IsPlace, AreTexts}
use Rattle.text_table.specs.declared.text_list.Span.{Span}

module _ (bytes text : List ℕ) (utf8 : IsUtf8 text) where
  boundary_kept : (i : ℕ) → IsCharBoundary bytes i → IsCharBoundary (bytes ++ text) i
  boundary_kept i boundary =
      ⊎_elim
      (λ (before : i < length bytes). (
        omega (arith, boundary.0, length-append bytes text),
        λ _ high.
            let same : get_or (bytes ++ text) i 0 ≡ get_or bytes i 0 =
            get_or_append_left bytes text 0 i before in
            omega (arith, boundary.1 before (omega arith)),
      ))
      (λ (from : length bytes ≤ i).
      let at_end : length bytes ≡ i = omega (arith, boundary.0) in
      subst (IsCharBoundary (bytes ++ text)) at_end
      (IsCharBoundary-at_seam (bytes ++ text) bytes text refl utf8))
      (cases_lt i (length bytes))

  place_kept : (span : Span) → IsPlace bytes span → IsPlace (bytes ++ text) span
  place_kept span place = record {
    ordered = place.ordered;
    starts = boundary_kept span.start place.starts;
    ends = boundary_kept span.end place.ends;
  }

  text_kept : (span : Span) → IsPlace bytes span → text_at (bytes ++ text) span ≡ text_at bytes span
  text_kept span place =
      let size = span.end - span.start in
      ap (take size) (drop-append-le span.start bytes text place.starts.0)
      ∙ take-append-le size (drop span.start bytes) text
      (omega (arith, place.ordered, place.ends.0, length-drop span.start bytes))

  -- the texts stay the same
  pub texts_kept : (spans : List Span) → All (IsPlace bytes) spans
      → map (text_at (bytes ++ text)) spans ≡ map (text_at bytes) spans
  texts_kept [] places = refl
  texts_kept (span ∷ spans) places =
      ap₂ ◌∷◌ (text_kept span (All-head (IsPlace bytes) span spans places))
      (texts_kept spans (All-tail (IsPlace bytes) span spans places))

  pub AreTexts-kept : (spans : List Span) → AreTexts bytes spans → AreTexts (bytes ++ text) spans
  AreTexts-kept spans are = record {
    places = All-weaker (IsPlace bytes) (IsPlace (bytes ++ text)) place_kept spans are.places;
    few = are.few;
  }

  -- the text that was added, from the old end to the new
  module _ (span : Span) (start : span.start ≡ length bytes)
      (end : span.end ≡ length bytes + length text) where
    text_added : text_at (bytes ++ text) span ≡ text
    text_added =
        ap (take (span.end - span.start)) (drop_at bytes text span.start (sym start))
        ∙ take_all (span.end - span.start) text (omega arith)

    pub AreTexts-added : (spans : List Span) → AreTexts bytes spans → length spans + 1 < 2 ^ 32
        → AreTexts (bytes ++ text) (spans ++ span ∷ [])
    AreTexts-added spans are few = record {
      places = All-push (IsPlace (bytes ++ text)) spans span
          (AreTexts-kept spans are).places
          (record {
            ordered = omega arith;
            starts = subst (IsCharBoundary (bytes ++ text)) (sym start)
                (IsCharBoundary-at_seam (bytes ++ text) bytes text refl utf8);
            ends = subst (IsCharBoundary (bytes ++ text))
                (length-append bytes text ∙ sym end)
                (IsCharBoundary-end (bytes ++ text));
          });
      few = omega (arith, length_push spans span);
    }

    pub texts_added : (spans : List Span) → AreTexts bytes spans
        → map (text_at (bytes ++ text)) (spans ++ span ∷ [])
        ≡ map (text_at bytes) spans ++ text ∷ []
    texts_added spans are =
        map_push (text_at (bytes ++ text)) spans span
        ∙ ap₂ (λ ts t. ts ++ t ∷ []) (texts_kept spans are.places) text_added

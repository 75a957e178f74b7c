-- Look-ups by text among the entries of a map.
use Rattle.std.proofs.Common.{◌≡◌, ℕ, List, [], ◌∷◌, ◌++◌, map, Some, cond, true, false, refl, sym}
use Rattle.std.proofs.Common.{ap, ◌∙◌}
use Rattle.std.specs.Prelude.{◌||◌}
use Rattle.std.specs.FinMap.{find}
use Rattle.std.specs.List.{list_any}
use Rattle.std.specs.Str.{bytes_eq}
use Rattle.std.proofs.lemmas.Map.Text.{is_eq-slice_cmp}
use Rattle.std.proofs.lemmas.Slice.Eq.{bytes_eq-Decides}
use Rattle.text_table.specs.TextMaps.{text_order}

-- a look-up among items whose values hang on their keys
pub find_keyed :
    {A X : Type 0} (key : A → List ℕ) (value : List ℕ → X) (q : List ℕ) (xs : List A)
    (others : List (List ℕ × X))
    → find text_order q (map (λ x. (key x, value (key x))) xs ++ others)
    ≡ cond (list_any (λ x. bytes_eq q (key x)) xs) (Some (value q)) (find text_order q others)
find_keyed key value q [] others = refl
find_keyed key value q (x ∷ xs) others =
    let rest = find text_order q (map (λ y. (key y, value (key y))) xs ++ others) in
    let any = list_any (λ y. bytes_eq q (key y)) xs in
    ap (λ b. cond b (Some (value (key x))) rest) (is_eq-slice_cmp q (key x))
    ∙ elim (bytes_eq q (key x)) as (λ b. bytes_eq q (key x) ≡ b
    → cond b (Some (value (key x))) rest
    ≡ cond (b || any) (Some (value q)) (find text_order q others)) [
      | true ↦ λ same. ap (λ k. Some (value k)) (sym ((bytes_eq-Decides q (key x)).0 same))
      | false ↦ λ _. find_keyed key value q xs others
    ] refl

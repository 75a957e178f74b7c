-- What the terms of words come to, term by term.
use Rattle.std.proofs.Common.{◌≡◌, ℕ, List, [], ◌∷◌, map, length, Some, None, cond}
use Rattle.std.proofs.Common.{refl, sym, ap, ◌∙◌, append-nil}
use Rattle.std.specs.FinMap as finite
use Rattle.std.specs.FinMap.{find}
use Rattle.std.specs.List.{zip}
use Rattle.std.specs.Str.{bytes_eq}
use Rattle.index_definitions.proofs.ListsLemmas.{list_any-map}
use Rattle.class_laws.specs.Counts.{text_order}
use Rattle.class_laws.specs.CountTables.{count_from, counts_of}
use Rattle.class_laws.specs.Laws.Counts.{text_order_total, same_counts}
use Rattle.index_definitions.specs.Words.{Word, positions_of}
use Rattle.document_terms.specs.Counted.{AreTermsOf}
use Rattle.shard.proofs.FindLemmas.{find_keyed}
use Rattle.indexer.specs.Totals.{counts_in}

-- how many words a term has
abbrev pub size_in : List Word → List ℕ → ℕ
size_in ws term = length (positions_of term ws)

sizes :
    (ws : List Word) (ts : List (List ℕ))
    → zip ts (map count_from (map (size_in ws) ts)) ≡ map (λ t. (t, count_from (size_in ws t))) ts
sizes ws [] = refl
sizes ws (t ∷ ts) = ap (λ es. (t, count_from (size_in ws t)) ∷ es) (sizes ws ts)

-- the terms with their sizes are the counts
pub counts_in-terms :
    (ts : List (List ℕ)) (ws : List Word)
    → AreTermsOf ts ws → counts_of ts (map (size_in ws) ts) ≡ counts_in ws
counts_in-terms ts ws are = same_counts _ _ (λ q.
    let value = λ (t : List ℕ). count_from (size_in ws t) in
    let by_terms = map (λ (t : List ℕ). (t, value t)) ts in
    let by_words = map (λ (w : Word). (w.1, value w.1)) ws in
    ap (λ es. finite.get (finite.from_entries {R = text_order} es) q) (sizes ws ts)
    ∙ finite.get-from_entries text_order_total by_terms q
    ∙ ap (find text_order q) (sym (append-nil by_terms))
    ∙ find_keyed (λ (t : List ℕ). t) value q ts []
    ∙ ap (λ b. cond b (Some (value q)) None)
    (are.members q ∙ list_any-map (bytes_eq q) (λ (w : Word). w.1) ws)
    ∙ sym (finite.get-from_entries text_order_total by_words q
    ∙ ap (find text_order q) (sym (append-nil by_words))
    ∙ find_keyed (λ (w : Word). w.1) value q ws []))

-- Counts by text, at one key after another.
use Rattle.std.proofs.Common.{◌≡◌, ◌≢◌, ℕ, zero, suc, ◌+◌, ◌%◌, ◌^◌, ◌<◌, List, [], ◌∷◌, ◌++◌}
use Rattle.std.proofs.Common.{true, false, cond, Option, Some, None, map}
use Rattle.std.proofs.Common.{refl, sym, ◌∙◌, ap, ap₂, arith}
use Rattle.std.proofs.lemmas.Bool.{false_from_ne_true}
use Rattle.std.proofs.lemmas.List.Elements.{All-cons, All-push}
use Rattle.std.proofs.lemmas.Map.Text.{is_eq-slice_cmp}
use Rattle.std.proofs.lemmas.Map.Views.{tells_apart}
use Rattle.std.proofs.lemmas.Slice.Eq.{bytes_eq-Decides}
use Rattle.std.specs.FinMap as finite
use Rattle.std.specs.FinMap.{find}
use Rattle.std.specs.List.{slice_get, zip}
use Rattle.std.specs.Map.{keys_of, values_of}
use Rattle.std.specs.Option.{unwrap_or}
use Rattle.std.specs.Ordering.{eq_by_cmp}
use Rattle.std.specs.Str.{bytes_eq}
use Rattle.text_table.specs.TextTables.{number_of, AreDistinct}
use Rattle.text_table.specs.TextMaps.{map_of, with_value}
use Rattle.text_table.proofs.TextTablesLemmas.{AreDistinct-first, nowhere-from_none}
pub use Rattle.text_table.proofs.TextTablesLemmas.{AreDistinct-drop}
use Rattle.text_table.proofs.TextMapsLemmas.{value_at, get-map_of, map_of-push, map_of-with_value}
use Rattle.class_laws.specs.Counts.{Counts, text_order, count_of, counts_after_add, counts_join}
use Rattle.class_laws.specs.Laws.Counts.{text_order_total, text_order_exact, same_counts}
use Rattle.class_laws.specs.Laws.Counts.{count_after_join, get-counts_join}
use Rattle.class_laws.specs.CountTables.{AreCounts, count_from, counts_of}

-- ---- an entry after an addition

-- of a key that was there
pub counts_after_add-known : (entries : List (List ℕ × ℕ)) (key : List ℕ) (n was by : ℕ)
    → number_of (keys_of entries) key ≡ Some n → slice_get (values_of entries) n ≡ Some was
    → map_of (with_value entries n ((was + by) % (2 ^ 64)))
    ≡ counts_after_add (map_of entries) key by
counts_after_add-known entries key n was by number value =
    map_of-with_value entries key n _ number
    ∙ ap (λ o. finite.insert (map_of entries) key ((unwrap_or o 0 + by) % (2 ^ 64)))
    (sym (get-map_of key entries ∙ ap (value_at entries) number ∙ value))

-- of a new key
pub counts_after_add-new : (entries : List (List ℕ × ℕ)) (key : List ℕ) (by : ℕ)
    → number_of (keys_of entries) key ≡ None → by < 2 ^ 64
    → map_of (entries ++ (key, by) ∷ []) ≡ counts_after_add (map_of entries) key by
counts_after_add-new entries key by none small =
    let sum : by ≡ (0 + by) % (2 ^ 64) = omega arith in
    map_of-push entries key by none
    ∙ ap (finite.insert (map_of entries) key) sum
    ∙ ap (λ o. finite.insert (map_of entries) key ((unwrap_or o 0 + by) % (2 ^ 64)))
    (sym (get-map_of key entries ∙ ap (value_at entries) none))

-- ---- a new key's count may stand in either of two maps that are joined

-- n may be added before the join, or be joined
count_moved : (x : Option ℕ) (n : ℕ)
    → count_after_join (Some ((unwrap_or x 0 + n) % (2 ^ 64))) None
    ≡ count_after_join x (Some (count_from n))
count_moved None n = ap Some (omega arith)
count_moved (Some a) n = ap Some (omega arith)

counts_join-moved : (a b : Counts) (key : List ℕ) (n : ℕ) → finite.get b key ≡ None
    → counts_join (counts_after_add a key n) b
    ≡ counts_join a (finite.insert b key (count_from n))
counts_join-moved a b key n none = same_counts _ _ (λ q.
    let sum = (count_of a key + n) % (2 ^ 64) in
    get-counts_join (counts_after_add a key n) b q
    ∙ ap (λ x. count_after_join x (finite.get b q)) (finite.get-insert text_order_total a key sum q)
    ∙ elim (eq_by_cmp text_order q key) as (λ t. eq_by_cmp text_order q key ≡ t
    → count_after_join (cond t (Some sum) (finite.get a q)) (finite.get b q)
    ≡ count_after_join (finite.get a q) (cond t (Some (count_from n)) (finite.get b q))) [
      | true ↦ λ t.
          let same : q ≡ key = tells_apart text_order_exact q key t in
          ap (count_after_join (Some sum)) (ap (finite.get b) same ∙ none)
          ∙ count_moved (finite.get a key) n
          ∙ ap (λ k. count_after_join (finite.get a k) (Some (count_from n))) (sym same)
      | false ↦ λ _. refl
    ] refl
    ∙ sym (get-counts_join a (finite.insert b key (count_from n)) q
    ∙ ap (count_after_join (finite.get a q))
    (finite.get-insert text_order_total b key (count_from n) q)))

-- the first entry may be added, and the others joined
pub counts_join-entry : (a : Counts) (entry : List ℕ × ℕ) (rest : List (List ℕ × ℕ))
    → AreDistinct (keys_of (entry ∷ rest)) → entry.1 < 2 ^ 64
    → counts_join (counts_after_add a entry.0 entry.1) (map_of rest)
    ≡ counts_join a (map_of (entry ∷ rest))
counts_join-entry a entry rest distinct small =
    let none = (AreDistinct-first entry.0 (keys_of rest) distinct).0 in
    let same : count_from entry.1 ≡ entry.1 = omega arith in
    counts_join-moved a (map_of rest) entry.0 entry.1
    (get-map_of entry.0 rest ∙ ap (value_at rest) none)
    ∙ ap (λ n. counts_join a (finite.insert (map_of rest) entry.0 n)) same

-- the same of a text with a number, which counts modulo 2^64
find-nowhere : (q : List ℕ) (ts : List (List ℕ)) (ns : List ℕ)
    → ((n : ℕ) → slice_get ts n ≢ Some q) → find text_order q (zip ts ns) ≡ None
find-nowhere q [] ns nowhere = refl
find-nowhere q (t ∷ ts) [] nowhere = refl
find-nowhere q (t ∷ ts) (n ∷ ns) nowhere =
    ap (λ b. cond b (Some n) (find text_order q (zip ts ns)))
    (is_eq-slice_cmp q t
    ∙ false_from_ne_true (bytes_eq q t) (λ same.
    nowhere 0 (ap Some (sym ((bytes_eq-Decides q t).0 same)))))
    ∙ find-nowhere q ts ns (λ k. nowhere (suc k))

pub counts_join-first : (a : Counts) (t : List ℕ) (n : ℕ) (ts : List (List ℕ)) (ns : List ℕ)
    → AreDistinct (t ∷ ts)
    → counts_join (counts_after_add a t n) (counts_of ts ns)
    ≡ counts_join a (counts_of (t ∷ ts) (n ∷ ns))
counts_join-first a t n ts ns distinct =
    counts_join-moved a (counts_of ts ns) t n
    (finite.get-from_entries text_order_total (zip ts (map count_from ns)) t
    ∙ find-nowhere t ts (map count_from ns)
    (nowhere-from_none ts t (AreDistinct-first t ts distinct).0))

-- ---- what is kept is below 2^64, so to join nothing changes nothing

AreCounts-rest : (entry : List ℕ × ℕ) (rest : List (List ℕ × ℕ)) → AreCounts (entry ∷ rest)
    → AreCounts rest
AreCounts-rest entry rest small k d within = small (suc k) d (omega arith)

nothing_found : (q : List ℕ) (entries : List (List ℕ × ℕ)) → AreCounts entries
    → count_after_join (find text_order q entries) None ≡ find text_order q entries
nothing_found q [] small = refl
nothing_found q (entry ∷ rest) small =
    let first : entry.1 < 2 ^ 64 = small 0 entry (omega arith) in
    elim (eq_by_cmp text_order q entry.0) as (λ b.
    count_after_join (cond b (Some entry.1) (find text_order q rest)) None
    ≡ cond b (Some entry.1) (find text_order q rest)) [
      | true ↦ ap Some (omega arith)
      | false ↦ nothing_found q rest (AreCounts-rest entry rest small)
    ]

pub counts_join-empty : (entries : List (List ℕ × ℕ)) → AreCounts entries
    → counts_join (map_of entries) finite.empty ≡ map_of entries
counts_join-empty entries small = same_counts _ _ (λ q.
    let found = finite.get-from_entries text_order_total entries q in
    get-counts_join (map_of entries) finite.empty q
    ∙ ap₂ count_after_join found (finite.get-empty text_order q)
    ∙ nothing_found q entries small
    ∙ sym found)

-- ---- counts stay below 2^64

pub AreCounts-push : (entries : List (List ℕ × ℕ)) (key : List ℕ) (n : ℕ) → AreCounts entries
    → n < 2 ^ 64 → AreCounts (entries ++ (key, n) ∷ [])
AreCounts-push entries key n small next = All-push (λ entry. entry.1 < 2 ^ 64) entries (key, n) small next

pub AreCounts-with_value : (entries : List (List ℕ × ℕ)) (n value : ℕ) → AreCounts entries
    → value < 2 ^ 64 → AreCounts (with_value entries n value)
AreCounts-with_value [] n value small next = small
AreCounts-with_value (entry ∷ rest) zero value small next =
    All-cons (λ e. e.1 < 2 ^ 64) (entry.0, value) rest next (AreCounts-rest entry rest small)
AreCounts-with_value (entry ∷ rest) (suc n) value small next =
    All-cons (λ e. e.1 < 2 ^ 64) entry (with_value rest n value) (small 0 entry (omega arith))
    (AreCounts-with_value rest n value (AreCounts-rest entry rest small) next)

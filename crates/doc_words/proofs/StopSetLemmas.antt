-- The texts of an ordered set, and one text more.
use Rattle.std.proofs.Common.{◌≡◌, ℕ, Bool, true, false, cond, List, [], ◌∷◌, map, String}
use Rattle.std.proofs.Common.{string_bytes, refl, sym, ap, ap₂, ◌∙◌, ⊎_elim}
use Rattle.std.specs.Prelude.{◌||◌}
use Rattle.std.specs.declared.alloc.Global.{Global}
use Rattle.std.specs.declared.cmp.Ordering.TheVariants.{Less}
use Rattle.std.specs.BTreeSet.{BTreeSet, UpdatesBy, contains_text}
use Rattle.std.specs.Cmp.Lexicographic.{slice_cmp}
use Rattle.std.specs.List.{AllByRecursion, AllZip}
use Rattle.std.specs.List.Sorted.{IsStrictlySortedBy}
use Rattle.std.specs.Ordering.{nat_cmp}
use Rattle.std.specs.Str.{bytes_eq}
use Rattle.std.specs.String.{string_cmp}
use Rattle.std.proofs.lemmas.Bool.{cases_Bool}
use Rattle.std.proofs.lemmas.Cmp.{nat_list_eq_equiv}
use Rattle.std.proofs.lemmas.Map.Steps.{list_any_congr}
use Rattle.std.proofs.lemmas.Map.Text.{is_eq-slice_cmp, btree_set_updates_text}
use Rattle.index_definitions.specs.Terms.{has_term}

-- the keys of a set, as texts
abbrev texts : List (String Global) → List (List ℕ)
texts ks = map string_bytes ks

-- keys in order are texts in order
pub IsStrictlySortedBy-texts :
    (ks : List (String Global))
    → IsStrictlySortedBy string_cmp ks → IsStrictlySortedBy (slice_cmp nat_cmp) (texts ks)
unfolding IsStrictlySortedBy
IsStrictlySortedBy-texts [] rising = rising
IsStrictlySortedBy-texts (k ∷ ks) rising = (below ks rising.0, IsStrictlySortedBy-texts ks rising.1)
  where
    below :
        (ls : List (String Global)) → AllByRecursion (λ l. string_cmp k l ≡ Less) ls
        → AllByRecursion (λ t. slice_cmp nat_cmp (string_bytes k) t ≡ Less) (texts ls)
    below [] all = all
    below (l ∷ ls) all = (all.0, below ls all.1)

pub texts-clone :
    {C : String Global → String Global → Type 0}
    → ((s t : String Global) → C s t → string_bytes t ≡ string_bytes s)
    → (ks ls : List (String Global)) → AllZip C ks ls → texts ls ≡ texts ks
texts-clone same [] [] clones = refl
texts-clone same [] (l ∷ ls) clones = absurd clones
texts-clone same (k ∷ ks) [] clones = absurd clones
texts-clone same (k ∷ ks) (l ∷ ls) clones =
    ap₂ (λ t ts. t ∷ ts) (same k l clones.0) (texts-clone same ks ls clones.1)

-- a look-up by a text says whether it is one of the texts
pub has_term-texts :
    (q : List ℕ) (s : BTreeSet (String Global))
    → contains_text s q ≡ has_term (texts s.keys) q
has_term-texts q s = over s.keys
  where
    over :
        (ks : List (String Global))
        → contains_text (record { keys = ks }) q ≡ has_term (texts ks) q
    over [] = refl
    over (k ∷ ks) = ap₂ (λ a b. a || b) (is_eq-slice_cmp q (string_bytes k)) (over ks)

cond-or : (a b : Bool) → cond a true b ≡ (a || b)
cond-or true b = refl
cond-or false b = refl

-- after a key with this text was put in
pub has_term-inserted :
    (old new : BTreeSet (String Global)) (key : String Global) (term : List ℕ)
    → string_bytes key ≡ term → UpdatesBy string_cmp (string_cmp key) old new true → (q : List ℕ)
    → has_term (texts new.keys) q
    ≡ (bytes_eq q term || has_term (texts old.keys) q)
has_term-inserted old new key term is updates q =
    sym (has_term-texts q new)
    ∙ btree_set_updates_text (string_bytes key) old new true updates q
    ∙ cond-or (bytes_eq (string_bytes key) q) (contains_text old q)
    ∙ ap₂ (λ a b. a || b)
    (nat_list_eq_equiv.symm (string_bytes key) q ∙ ap (bytes_eq q) is) (has_term-texts q old)

-- a text that is there adds nothing
pub has_term-known :
    (terms : List (List ℕ)) (term : List ℕ) → has_term terms term ≡ true → (q : List ℕ)
    → has_term terms q ≡ (bytes_eq q term || has_term terms q)
has_term-known terms term known q =
    ⊎_elim
    (λ yes. list_any_congr nat_list_eq_equiv q term terms yes ∙ known
    ∙ sym (ap (λ b. b || has_term terms q) yes))
    (λ no. sym (ap (λ b. b || has_term terms q) no))
    (cases_Bool (bytes_eq q term))

or-moved : (a b c : Bool) → ((a || b) || c) ≡ (b || (a || c))
or-moved true true c = refl
or-moved true false c = refl
or-moved false b c = refl

-- a term that was left is now among those that are known
pub has_term-moved :
    (q added term : List ℕ) (old new left fewer : List (List ℕ))
    → added ≡ term → left ≡ term ∷ fewer
    → has_term new q ≡ (bytes_eq q added || has_term old q)
    → (has_term new q || has_term fewer q)
    ≡ (has_term old q || has_term left q)
has_term-moved q added term old new left fewer same taken grown =
    ap (λ b. b || has_term fewer q)
    (grown ∙ ap (λ t. bytes_eq q t || has_term old q) same)
    ∙ or-moved (bytes_eq q term) (has_term old q) (has_term fewer q)
    ∙ ap (λ ts. has_term old q || has_term ts q) (sym taken)

or-false : (a : Bool) → (a || false) ≡ a
or-false true = refl
or-false false = refl

-- where none is left, all are known
pub has_term-none_left :
    (q : List ℕ) (known left : List (List ℕ)) → left ≡ []
    → has_term known q ≡ (has_term known q || has_term left q)
has_term-none_left q known left none =
    sym (or-false (has_term known q))
    ∙ ap (λ ts. has_term known q || has_term ts q) (sym none)

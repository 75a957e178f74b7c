-- Postings in reading order and term by term: each order has just the postings of the other.
use Rattle.std.proofs.Common.{◌≡◌, ℕ, List, [], ◌∷◌, ◌++◌, map, flat_map, Bool, true, false, cond}
use Rattle.std.proofs.Common.{refl, sym, ap, ◌∙◌, subst}
use Rattle.std.specs.Prelude.{◌||◌}
use Rattle.std.specs.declared.cmp.Ordering.TheVariants.{Less}
use Rattle.std.specs.Cmp.Lexicographic.{slice_cmp}
use Rattle.std.specs.List.{AllByRecursion}
use Rattle.std.specs.List.Sorted.{IsPermutation, IsStrictlySortedBy}
use Rattle.std.specs.Ordering.{nat_cmp, is_eq}
use Rattle.std.specs.Str.{bytes_eq}
use Rattle.std.proofs.lemmas.Cmp.{nat_list_eq_equiv}
use Rattle.std.proofs.lemmas.List.Sorted.{IsPermutation-refl, IsPermutation-sym, IsPermutation-trans}
use Rattle.std.proofs.lemmas.List.Sorted.{IsPermutation-cons, IsPermutation-middle}
use Rattle.std.proofs.lemmas.List.Sorted.{IsPermutation-append_right}
use Rattle.std.proofs.lemmas.Map.Text.{is_eq-slice_cmp}
use Rattle.std.proofs.lemmas.Slice.Eq.{bytes_eq-Decides}
use Rattle.index_definitions.specs.Terms.{has_term, HaveSameTerms}
use Rattle.index_definitions.specs.Postings.{Posting, postings_of, terms_of}
use Rattle.index_definitions.proofs.TermsLemmas.{rising_terms-rise, HaveSameTerms-rising}

-- no term stands twice
abbrev pub AreOnce : List (List ℕ) → Type 0
AreOnce [] = Unit {0}
AreOnce (t ∷ ts) = (has_term ts t ≡ false) × AreOnce ts

-- a term below all others is none of them
below-none : (t : List ℕ) (ts : List (List ℕ))
    → AllByRecursion (λ u. slice_cmp nat_cmp t u ≡ Less) ts → has_term ts t ≡ false
below-none t [] below = refl
below-none t (u ∷ ts) below =
    ap (λ b. b || has_term ts t) (sym (is_eq-slice_cmp t u) ∙ ap is_eq below.0)
    ∙ below-none t ts below.1

pub AreOnce-rising : (ts : List (List ℕ)) → IsStrictlySortedBy (slice_cmp nat_cmp) ts → AreOnce ts
unfolding IsStrictlySortedBy
AreOnce-rising [] rising = tt
AreOnce-rising (t ∷ ts) rising = (below-none t ts rising.0, AreOnce-rising ts rising.1)

-- ---- one posting more

-- the lists of terms, where a posting comes first in that of its term
abbrev grown : Posting → (List ℕ → List Posting) → List ℕ → List Posting
grown p f t = cond (bytes_eq t p.term) (p ∷ f t) (f t)

-- a posting of another term
grown-none : (p : Posting) (f : List ℕ → List Posting) (ts : List (List ℕ))
    → has_term ts p.term ≡ false → flat_map (grown p f) ts ≡ flat_map f ts
grown-none p f [] none = refl
grown-none p f (t ∷ ts) none =
    elim (bytes_eq p.term t) as (λ b. bytes_eq p.term t ≡ b → (b || has_term ts p.term) ≡ false
    → flat_map (grown p f) (t ∷ ts) ≡ flat_map f (t ∷ ts)) [
      | true ↦ λ _ no. absurd cc
      | false ↦ λ other rest.
          ap (λ b. cond b (p ∷ f t) (f t) ++ flat_map (grown p f) ts)
          (nat_list_eq_equiv.symm t p.term ∙ other)
          ∙ ap (λ ps. f t ++ ps) (grown-none p f ts rest)
    ] refl none

-- a posting of one of the terms
grown-some : (p : Posting) (f : List ℕ → List Posting) (ts : List (List ℕ))
    → AreOnce ts → has_term ts p.term ≡ true
    → IsPermutation (p ∷ flat_map f ts) (flat_map (grown p f) ts)
grown-some p f [] once some = absurd cc
grown-some p f (t ∷ ts) once some =
    elim (bytes_eq p.term t) as (λ b. bytes_eq p.term t ≡ b → (b || has_term ts p.term) ≡ true
    → IsPermutation (p ∷ flat_map f (t ∷ ts)) (flat_map (grown p f) (t ∷ ts))) [
      | true ↦ λ same _.
          let is : p.term ≡ t = (bytes_eq-Decides p.term t).0 same in
          let others = grown-none p f ts (ap (has_term ts) is ∙ once.0) in
          let here : flat_map (grown p f) (t ∷ ts) ≡ p ∷ flat_map f (t ∷ ts) =
          ap (λ b. cond b (p ∷ f t) (f t) ++ flat_map (grown p f) ts)
          (nat_list_eq_equiv.symm t p.term ∙ same)
          ∙ ap (λ ps. p ∷ (f t ++ ps)) others in
          subst (IsPermutation (p ∷ flat_map f (t ∷ ts))) (sym here) (IsPermutation-refl _)
      | false ↦ λ other rest.
          let later : flat_map (grown p f) (t ∷ ts) ≡ f t ++ flat_map (grown p f) ts =
          ap (λ b. cond b (p ∷ f t) (f t) ++ flat_map (grown p f) ts)
          (nat_list_eq_equiv.symm t p.term ∙ other) in
          subst (IsPermutation (p ∷ flat_map f (t ∷ ts))) (sym later)
          (IsPermutation-trans _ _ _
          (IsPermutation-sym _ _ (IsPermutation-middle (f t) p (flat_map f ts)))
          (IsPermutation-append_right (f t) _ _ (grown-some p f ts once.1 rest)))
    ] refl some

-- ---- all postings

flat_map-none : (ts : List (List ℕ)) → flat_map {A = Posting} (λ t. []) ts ≡ []
flat_map-none [] = refl
flat_map-none (t ∷ ts) = flat_map-none ts

grouped : (ts : List (List ℕ)) → AreOnce ts → (ps : List Posting)
    → AllByRecursion (λ p. has_term ts p.term ≡ true) ps
    → IsPermutation ps (flat_map (λ t. postings_of t ps) ts)
grouped ts once [] have = subst (IsPermutation []) (sym (flat_map-none ts)) (IsPermutation-refl [])
grouped ts once (p ∷ ps) have =
    IsPermutation-trans _ _ _ (IsPermutation-cons p _ _ (grouped ts once ps have.1))
    (grown-some p (λ t. postings_of t ps) ts once have.0)

or-true : (a : Bool) → (a || true) ≡ true
or-true true = refl
or-true false = refl

-- each posting's term is one of them
have-all : (ts : List (List ℕ)) (ps : List Posting)
    → ((q : List ℕ) → has_term (map (λ p. p.term) ps) q ≡ true → has_term ts q ≡ true)
    → AllByRecursion (λ p. has_term ts p.term ≡ true) ps
have-all ts [] each = tt
have-all ts (p ∷ ps) each = (
  each p.term (ap (λ b. b || has_term (map (λ q. q.term) ps) p.term)
      ((bytes_eq-Decides p.term p.term).1 refl)),
  have-all ts ps (λ q later. each q (ap (λ b. bytes_eq q p.term || b) later
      ∙ or-true (bytes_eq q p.term))),
)

pub terms_of-members : (ps : List Posting)
    → HaveSameTerms (terms_of ps) (map (λ p. p.term) ps)
terms_of-members ps = HaveSameTerms-rising (map (λ p. p.term) ps)

pub terms_of-rise : (ps : List Posting) → IsStrictlySortedBy (slice_cmp nat_cmp) (terms_of ps)
terms_of-rise ps = rising_terms-rise (map (λ p. p.term) ps)

pub IsPermutation-grouped : (ps : List Posting)
    → IsPermutation ps (flat_map (λ t. postings_of t ps) (terms_of ps))
IsPermutation-grouped ps =
    grouped (terms_of ps) (AreOnce-rising (terms_of ps) (terms_of-rise ps)) ps
    (have-all (terms_of ps) ps (λ q has. terms_of-members ps q ∙ has))

-- An order, judged by its places one after the other.
use Rattle.std.proofs.Common.{◌≡◌, ℕ, ◌+◌, ◌<◌, Bool, true, false, List, [], ◌∷◌, ◌++◌, length, take, drop, refl, sym, subst, arith}
use Rattle.std.proofs.lemmas.List.{take-append-drop, take_all}
use Rattle.execution_definitions.specs.Shapes.{Shape}
use Rattle.interleavings.specs.Merges.{is_among, IsLegal, BeginsMerge, IsNoMergeAt}
use Rattle.merge_laws.specs.Fronts.{IsBegun}
use Rattle.legal_merges.specs.kept.Judging.{HasAll}
use Rattle.merge_laws.proofs.BegunLemmas.{absent_times, present_times, begun_goes_on, front_begun}

module _ (n : ℕ) (calls : List Shape) where
  -- places with all places that begin a legal merge are one
  pub begun_all : (order : List ℕ) → IsBegun n calls order → HasAll calls order →
      IsLegal n calls order
  begun_all order begun all = record {
    each_once = λ place inside.
        let low = present_times order place (all place inside) in
        let high = begun.at_most_once place in
        omega arith;
    no_other = begun.no_other;
    keeps = begun.keeps;
  }

  legal_begins : (order front rest : List ℕ) → front ++ rest ≡ order → IsLegal n calls order →
      BeginsMerge n calls front
  legal_begins order front rest is legal = record {
    rest = rest;
    legal = subst (λ (l : List ℕ). IsLegal n calls l) (sym is) legal;
  }

  -- a legal merge has all places
  pub legal_all : (order : List ℕ) → IsLegal n calls order → HasAll calls order
  legal_all order legal place inside = by (is_among order place) refl where
    by : (t : Bool) → is_among order place ≡ t → t ≡ true
    by true e = refl
    by false e =
        let once = legal.each_once place inside in
        let none = absent_times order place e in
        absurd (omega arith)

  -- an order that is too short
  pub no_merge_short : (order : List ℕ) (count : ℕ) → count ≡ length order →
      IsBegun n calls order → (HasAll calls order → ⊥) → IsNoMergeAt n calls order count
  no_merge_short order count is begun left = record {
    within = omega arith;
    begins = subst (λ (l : List ℕ). BeginsMerge n calls l)
        (sym (take_all count order (omega arith))) (begun_goes_on n calls order begun);
    ends = λ inside. absurd (omega arith);
    illegal = λ legal. left (legal_all order legal);
  }

  -- an order that begins no legal merge with a place
  pub no_merge_at : (order : List ℕ) (count place : ℕ) (done : List ℕ) → count < length order →
      take count order ≡ done → take (count + 1) order ≡ done ++ place ∷ [] →
      IsBegun n calls done → (IsBegun n calls (done ++ place ∷ []) → ⊥) →
      IsNoMergeAt n calls order count
  no_merge_at order count place done inside front with_it begun none = record {
    within = omega arith;
    begins = subst (λ (l : List ℕ). BeginsMerge n calls l) (sym front)
        (begun_goes_on n calls done begun);
    ends = λ inside begins. stops begins;
    illegal = λ legal.
        stops (legal_begins order (take (count + 1) order) (drop (count + 1) order)
        (take-append-drop (count + 1) order) legal);
  } where
    stops : BeginsMerge n calls (take (count + 1) order) → ⊥
    stops begins =
        none (front_begun n calls (done ++ place ∷ [])
        (subst (λ (l : List ℕ). BeginsMerge n calls l) with_it begins))

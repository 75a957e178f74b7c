-- Orders that are made pick by pick, or judged place by place, with what may come next.
use Rattle.std.proofs.Common.{◌≡◌, ℕ, zero, suc, ◌+◌, ◌≤◌, Some, List, [], ◌∷◌, ◌++◌, length, take, drop, refl, sym, ap, ◌∙◌, subst, arith}
use Rattle.std.specs.Prelude.{slice_get}
use Rattle.std.proofs.lemmas.List.{take_all, length-map, map-append, take-append-drop, length-take-le}
use Rattle.std.proofs.lemmas.Option.{slice_get_within}
use Rattle.ss_base.specs.declared.ids.CallNo.{CallNo}
use Rattle.ss_base.specs.declared.ids.Event.{Event}
use Rattle.execution_definitions.specs.Shapes.{Shape}
use Rattle.legal_merges.specs.declared.turns.Turns.{Turns}
use Rattle.merge_laws.specs.Fronts.{IsBegun}
use Rattle.legal_merges.specs.Picks.{lane_picked, next_place, with_pick, picked}
use Rattle.legal_merges.specs.Merging.{places, IsMerge, IsNotMergeAt}
use Rattle.legal_merges.specs.kept.Turns.{turn_of, IsOnWay}
use Rattle.legal_merges.specs.kept.Judging.{IsNextOf, HasAll}
use Rattle.execution_definitions.proofs.lists.ListLemmas.{take-next}
use Rattle.legal_merges.proofs.JudgedLemmas.{begun_all, no_merge_short, no_merge_at}
use Rattle.legal_merges.proofs.PicksLemmas.{next_is, picked-count, picked-push, picked-take}

-- one call more
pub places-push : (order : List CallNo) (call : CallNo) (place : ℕ) → call.0 ≡ place →
    places (order ++ call ∷ []) ≡ places order ++ place ∷ []
places-push order call place is =
    map-append (λ c. c.0) order (call ∷ []) ∙ ap (λ p. places order ++ p ∷ []) is

-- the first places are those of the first calls
places_front : (order : List CallNo) (count : ℕ) →
    places (take count order) ≡ take count (places order)
places_front order zero = refl
places_front [] (suc count) = refl
places_front (call ∷ order) (suc count) = ap (λ l. call.0 ∷ l) (places_front order count)

-- and those of the first picks
picked_front : (n : ℕ) (calls : List Shape) (picks : List Event) (count : ℕ) →
    count ≤ length picks → take count (picked n calls picks) ≡ picked n calls (take count picks)
picked_front n calls picks count within =
    ap (λ k. take k (picked n calls picks)) (sym (length-take-le count picks within))
    ∙ ap (λ l. take (length (take count picks)) (picked n calls l))
    (sym (take-append-drop count picks))
    ∙ picked-take n calls (take count picks) (drop count picks)

module _ (n : ℕ) (calls : List Shape) where
  -- the order is that of the first picks, and begins a legal merge
  pub record IsPickedTo (picks : List Event) (order : List CallNo) (turns : Turns) (index : ℕ)
      : Type 0 where
    pub way : IsOnWay n calls (places order) turns
    pub are : places order ≡ picked n calls (take index picks)
    pub count : length order ≡ index

  pub picked-none : (picks : List Event) (order : List CallNo) (turns : Turns) → order ≡ [] →
      IsOnWay n calls [] turns → IsPickedTo picks order turns 0
  picked-none picks order turns none way = record {
    way = subst (λ o. IsOnWay n calls (places o) turns) (sym none) way;
    are = ap places none;
    count = ap length none;
  }

  module _ (picks : List Event) (order : List CallNo) (turns : Turns) (index : ℕ) (pick : Event)
      (place turn : ℕ) (so_far : IsPickedTo picks order turns index)
      (at : slice_get picks index ≡ Some pick) (of_turn : turn_of (lane_picked pick) ≡ turn)
      (next : IsNextOf n calls (places order) turn place) where
    is_next : place ≡ next_place n calls (lane_picked pick) (places order)
    is_next = next_is n calls (places order) (lane_picked pick) place (next (lane_picked pick) of_turn)

    with_it : picked n calls (take (index + 1) picks) ≡ places order ++ place ∷ []
    with_it =
        ap (picked n calls) (take-next picks index pick at)
        ∙ picked-push n calls (take index picks) pick
        ∙ ap (λ o. with_pick n calls o pick) (sym so_far.are)
        ∙ ap (λ p. places order ++ p ∷ []) (sym is_next)

    -- a pick more
    pub picks-push : (call : CallNo) (new : Turns) → call.0 ≡ place →
        IsOnWay n calls (places order ++ place ∷ []) new →
        IsPickedTo picks (order ++ call ∷ []) new (index + 1)
    picks-push call new is way =
        let pushed = places-push order call place is in
        record {
          way = subst (λ o. IsOnWay n calls o new) (sym pushed) way;
          are = pushed ∙ sym with_it;
          count = let counted = so_far.count in length-push order call ∙ omega arith;
        } where
          length-push : (xs : List CallNo) (x : CallNo) → length (xs ++ x ∷ []) ≡ length xs + 1
          length-push [] x = refl
          length-push (y ∷ xs) x = let e = length-push xs x in omega arith

    -- a pick with which the order begins no legal merge
    pub picks-stop : (count : ℕ) → count ≡ index → (IsBegun n calls (places order ++ place ∷ []) → ⊥) →
        IsNotMergeAt n calls (picked n calls picks) count
    picks-stop count is none =
        let inside = slice_get_within picks index pick at in
        let all = picked-count n calls picks in
        subst (λ k. IsNotMergeAt n calls (picked n calls picks) k) (sym is) (record {
          sound = so_far.way.linked.table.sound;
          no_merge = no_merge_at n calls (picked n calls picks) index place (places order)
              (omega arith)
              (picked_front n calls picks index (omega arith) ∙ sym so_far.are)
              (picked_front n calls picks (index + 1) (omega arith) ∙ with_it)
              so_far.way.begun none;
        })

  module _ (picks : List Event) (order : List CallNo) (turns : Turns) (index : ℕ)
      (so_far : IsPickedTo picks order turns index) (past : length picks ≤ index) where
    -- all picks are done
    pub picks-all : places order ≡ picked n calls picks
    picks-all = so_far.are ∙ ap (picked n calls) (take_all index picks past)

    pub picks-merge : HasAll calls (places order) → IsMerge n calls (places order)
    picks-merge all = record {
      sound = so_far.way.linked.table.sound;
      legal = begun_all n calls (places order) so_far.way.begun all;
    }

    -- and some calls are left
    pub picks-short : (count : ℕ) → count ≡ length picks → (HasAll calls (places order) → ⊥) →
        IsNotMergeAt n calls (picked n calls picks) count
    picks-short count is left =
        let counted = picked-count n calls picks in
        record {
          sound = so_far.way.linked.table.sound;
          no_merge = no_merge_short n calls (picked n calls picks) count (is ∙ sym counted)
              (subst (λ (l : List ℕ). IsBegun n calls l) picks-all so_far.way.begun)
              (λ all. left (subst (λ (l : List ℕ). HasAll calls l) (sym picks-all) all));
        }

  -- ---- an order that is given

  -- before its first place
  pub order-none : (order : List CallNo) (turns : Turns) → IsOnWay n calls [] turns →
      IsOnWay n calls (places (take 0 order)) turns
  order-none order turns way = way

  module _ (order : List CallNo) (index : ℕ) (call : CallNo) (place : ℕ)
      (at : slice_get order index ≡ Some call) (is : call.0 ≡ place) where
    order-with : places (take (index + 1) order) ≡ places (take index order) ++ place ∷ []
    order-with = ap places (take-next order index call at) ∙ places-push (take index order) call place is

    -- a place more
    pub order-push : (new : Turns) →
        IsOnWay n calls (places (take index order) ++ place ∷ []) new →
        IsOnWay n calls (places (take (index + 1) order)) new
    order-push new way = subst (λ (l : List ℕ). IsOnWay n calls l new) (sym order-with) way

    -- a place with which the order begins no legal merge
    pub order-stop : (turns : Turns) → IsOnWay n calls (places (take index order)) turns →
        (IsBegun n calls (places (take index order) ++ place ∷ []) → ⊥) →
        IsNotMergeAt n calls (places order) index
    order-stop turns way none =
        let inside = slice_get_within order index call at in
        let counted = length-map order (λ (c : CallNo). c.0) in
        record {
          sound = way.linked.table.sound;
          no_merge = no_merge_at n calls (places order) index place (places (take index order))
              (omega arith) (sym (places_front order index))
              (sym (places_front order (index + 1)) ∙ order-with) way.begun none;
        }

  module _ (order : List CallNo) (index : ℕ) (turns : Turns)
      (way : IsOnWay n calls (places (take index order)) turns) (past : length order ≤ index) where
    whole : places (take index order) ≡ places order
    whole = ap places (take_all index order past)

    -- all places are done
    pub order-merge : HasAll calls (places (take index order)) → IsMerge n calls (places order)
    order-merge all = record {
      sound = way.linked.table.sound;
      legal = begun_all n calls (places order)
          (subst (λ (l : List ℕ). IsBegun n calls l) whole way.begun)
          (subst (λ (l : List ℕ). HasAll calls l) whole all);
    }

    -- and some calls are left
    pub order-short : (count : ℕ) → count ≡ length order →
        (HasAll calls (places (take index order)) → ⊥) → IsNotMergeAt n calls (places order) count
    order-short count is left = record {
      sound = way.linked.table.sound;
      no_merge = no_merge_short n calls (places order) count
          (is ∙ sym (length-map order (λ (c : CallNo). c.0)))
          (subst (λ (l : List ℕ). IsBegun n calls l) whole way.begun)
          (λ all. left (subst (λ (l : List ℕ). HasAll calls l) (sym whole) all));
    }

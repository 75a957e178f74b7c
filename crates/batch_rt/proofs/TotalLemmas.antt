-- What lanes contribute, joined into a total.
use Rattle.std.proofs.Common.{◌≡◌, ℕ, zero, suc, Option, Some, None, List, [], ◌∷◌, refl, sym, ap, ◌∙◌}
use Rattle.std.specs.Prelude.{slice_get, slice_set}
use Rattle.std.specs.Option.{unwrap_or}
use Rattle.std.proofs.lemmas.Option.{same_Some}
use Rattle.class_laws.specs.Laws.{ReducibleLaws}
use Rattle.execution_definitions.specs.Meanings.{Meaning}
use Rattle.batch_rt.specs.declared.lane.Lane.{Lane}
use Rattle.batch_rt.specs.Lanes.{load_of}
use Rattle.batch_rt.specs.Stores.{with_part, with_lane, total_after}

module _ {C O R : Type 0} (m : Meaning C O R) where
  -- lanes that contribute alike
  pub total_same : (total : R) (lanes : List (Lane C O R)) (l : ℕ) (old new : Lane C O R) →
      slice_get lanes l ≡ Some old → (load_of m new).part ≡ (load_of m old).part →
      total_after m total (slice_set lanes l new) ≡ total_after m total lanes
  total_same total [] l old new here same = absurd cc
  total_same total (lane ∷ lanes) zero old new here same =
      ap (λ part. total_after m (with_part m total part) lanes)
      (same ∙ ap (λ lane. (load_of m lane).part) (sym (same_Some _ _ here)))
  total_same total (lane ∷ lanes) (suc l) old new here same =
      total_same (with_lane m total lane) lanes l old new here same

  module _ (laws : ReducibleLaws m.unit m.join) where
    -- contributions change places
    swap : (a b c : R) → m.join (m.join a b) c ≡ m.join (m.join a c) b
    swap a b c = sym (laws.associative a b c) ∙ ap (λ x. m.join a x) (laws.commutative b c)
        ∙ laws.associative a c b

    swap_part : (total more : R) (part : Option R) →
        with_part m (m.join total more) part ≡ m.join (with_part m total part) more
    swap_part total more None = refl
    swap_part total more (Some part) = swap total more part

    swap_parts : (total : R) (part other : Option R) →
        with_part m (with_part m total part) other ≡ with_part m (with_part m total other) part
    swap_parts total None other = refl
    swap_parts total (Some part) other = swap_part total part other

    -- a contribution to the total comes before those of lanes, or after
    pub total_more : (total more : R) (lanes : List (Lane C O R)) →
        total_after m (m.join total more) lanes ≡ m.join (total_after m total lanes) more
    total_more total more [] = refl
    total_more total more (lane ∷ lanes) =
        ap (λ x. total_after m x lanes) (swap_part total more (load_of m lane).part)
        ∙ total_more (with_lane m total lane) more lanes

    -- the unit adds nothing before another contribution
    part_more : (total more : R) (part : Option R) →
        with_part m total (Some (m.join (unwrap_or part m.unit) more))
        ≡ m.join (with_part m total part) more
    part_more total more None =
        ap (λ x. m.join total x) (laws.commutative m.unit more)
        ∙ laws.associative total more m.unit ∙ laws.unit_of_join total more
    part_more total more (Some part) = laws.associative total part more

    -- a lane contributes once more
    pub total_put : (total more : R) (lanes : List (Lane C O R)) (l : ℕ) (old new : Lane C O R) →
        slice_get lanes l ≡ Some old →
        (load_of m new).part ≡ Some (m.join (unwrap_or (load_of m old).part m.unit) more) →
        total_after m total (slice_set lanes l new) ≡ m.join (total_after m total lanes) more
    total_put total more [] l old new here is = absurd cc
    total_put total more (lane ∷ lanes) zero old new here is =
        ap (λ part. total_after m (with_part m total part) lanes) is
        ∙ ap (λ x. total_after m x lanes) (part_more total more (load_of m old).part)
        ∙ total_more (with_part m total (load_of m old).part) more lanes
        ∙ ap (λ lane. m.join (total_after m (with_lane m total lane) lanes) more)
        (sym (same_Some _ _ here))
    total_put total more (lane ∷ lanes) (suc l) old new here is =
        total_put (with_lane m total lane) more lanes l old new here is

    -- what a lane contributed comes home
    pub total_home : (total : R) (lanes : List (Lane C O R)) (l : ℕ) (old new : Lane C O R) →
        slice_get lanes l ≡ Some old → (load_of m new).part ≡ None →
        total_after m (with_part m total (load_of m old).part) (slice_set lanes l new)
        ≡ total_after m total lanes
    total_home total [] l old new here none = absurd cc
    total_home total (lane ∷ lanes) zero old new here none =
        ap (λ part. total_after m (with_part m (with_part m total (load_of m old).part) part) lanes)
        none
        ∙ ap (λ lane. total_after m (with_lane m total lane) lanes) (sym (same_Some _ _ here))
    total_home total (lane ∷ lanes) (suc l) old new here none =
        ap (λ x. total_after m x (slice_set lanes l new))
        (swap_parts total (load_of m old).part (load_of m lane).part)
        ∙ total_home (with_lane m total lane) lanes l old new here none

-- The order of contributions.
use Rattle.std.proofs.Common.{◌≡◌, sym, ap, ◌∙◌, subst}
use Rattle.class_laws.specs.Laws.{ReducibleLaws}

module _ {R : Type 0} where
  -- what joins as a lawful join does takes contributions in any order
  pub any_order : (unit : R) (join other : R → R → R) → other ≡ join → ReducibleLaws unit join →
      (total a b : R) → other (other total a) b ≡ other (other total b) a
  any_order unit join other same laws =
      subst (λ (j : R → R → R). (total a b : R) → j (j total a) b ≡ j (j total b) a) (sym same)
      (λ total a b. sym (laws.associative total a b) ∙ ap (join total) (laws.commutative a b)
      ∙ laws.associative total b a)

-- Why does a pair have the laws? Since each of its parts does.
use Rattle.std.specs.Prelude.{◌≡◌}
use Rattle.class_laws.specs.Laws.{ReducibleLaws}
use Rattle.class_laws.specs.Pairs.{both_of, both_join}

module _ {A B : Type 0} where
  both_of-equal : {a c : A} {b d : B} → a ≡ c → b ≡ d → both_of a b ≡ both_of c d
  both_of-equal p q = cc

  pub both_laws : {u : A} {f : A → A → A} {v : B} {g : B → B → B}
      → ReducibleLaws u f → ReducibleLaws v g → ReducibleLaws (both_of u v) (both_join f g)
  both_laws l r = record {
    associative = λ a b c.
        both_of-equal (l.associative a.0 b.0 c.0) (r.associative a.1 b.1 c.1);
    commutative = λ a b. both_of-equal (l.commutative a.0 b.0) (r.commutative a.1 b.1);
    unit_of_unit = both_of-equal l.unit_of_unit r.unit_of_unit;
    unit_of_join = λ a b. both_of-equal (l.unit_of_join a.0 b.0) (r.unit_of_join a.1 b.1);
  }

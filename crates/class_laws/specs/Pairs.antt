-- What do two pairs come to when they are joined?
use Rattle.class_laws.specs.declared.both.Both.{Both}

-- the pair of two values
abbrev pub both_of : {A B : Type 0} → A → B → Both A B
both_of a b = record { 0 = a; 1 = b }

-- each part joined with its like
abbrev pub both_join : {A B : Type 0} → (A → A → A) → (B → B → B) → Both A B → Both A B → Both A B
both_join join_first join_second p q = both_of (join_first p.0 q.0) (join_second p.1 q.1)

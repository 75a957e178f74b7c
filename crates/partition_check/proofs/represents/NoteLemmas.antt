-- Marks that represent a list represent it with an accepted write, get or total more.
use Rattle.std.proofs.Common.{◌≡◌, ℕ, Bool, false, Option, Some, None, List, [], ◌∷◌, ◌++◌, refl, ap, ◌∙◌, subst}
use Rattle.std.specs.Prelude.{◌==◌}
use Rattle.execution_definitions.specs.Shapes.{Shape, write, get, total}
use Rattle.execution_definitions.specs.Held.{frees}
use Rattle.execution_definitions.specs.Refusals.{breaks}
use Rattle.partition_check.specs.Marked.{Marked}
use Rattle.partition_check.specs.MarkedAfter.{freed_mark, changed_where, marked_noted}
use Rattle.partition_check.specs.Represents.{Represents, IsMarkOf, IsNotedWith}
use Rattle.partition_check.proofs.represents.MarkLemmas.{IsApart, IsMarkOf-apart, IsMarkOf-freed}
use Rattle.partition_check.proofs.represents.KnownLemmas.{within_objects}
use Rattle.partition_check.proofs.marked.ChangedLemmas.{length-changed_where, changed_mark}
use Rattle.partition_check.proofs.represents.RepresentsLemmas.{AllRight, IsPlain, plain-represents}

-- the object is the one that is given
abbrev is_given : Option ℕ → ℕ → Bool
is_given None object = false
is_given (Some given) object = given == object

-- the call does nothing but free the object that is given
record IsNote (call : Shape) (given : Option ℕ) : Type 0 where
  plain : IsPlain call
  apart : (object : ℕ) → IsApart call object
  freed : (object : ℕ) → frees object call ≡ is_given given object

-- a write, a get and a total are such calls
note_is : (given : Option ℕ) (call : Shape) → IsNotedWith given call → IsNote call given
note_is (Some given) (write o) same = record {
  plain = record {
    within = record { no_begin = refl; no_end = refl };
    no_object = refl;
    no_sequence = refl;
  };
  apart = λ object. record { no_set = λ s earlier. refl; no_read = refl };
  freed = λ object. ap (λ number. number == object) same;
}
note_is (Some given) (get o) same = record {
  plain = record {
    within = record { no_begin = refl; no_end = refl };
    no_object = refl;
    no_sequence = refl;
  };
  apart = λ object. record { no_set = λ s earlier. refl; no_read = refl };
  freed = λ object. ap (λ number. number == object) same;
}
note_is None total is = record {
  plain = record {
    within = record { no_begin = refl; no_end = refl };
    no_object = refl;
    no_sequence = refl;
  };
  apart = λ object. record { no_set = λ s earlier. refl; no_read = refl };
  freed = λ object. refl;
}
note_is _ _ is = absurd is

module _ (marked : Marked) (calls : List Shape) (call : Shape) (r : Represents marked calls) where
  -- each mark is right once that of the object is freed
  all_noted : (given : Option ℕ) → IsNote call given →
      AllRight (changed_where given freed_mark marked.objects) (calls ++ call ∷ [])
  all_noted None note object mark some =
      IsMarkOf-apart calls call object note.plain.within (note.apart object) mark
      (within_objects marked calls r object mark some) (r.each object mark some)
      (note.freed object)
  all_noted (Some given) note object mark some =
      changed_mark freed_mark marked.objects given object mark some
      (λ before at was is. subst (λ m. IsMarkOf (calls ++ call ∷ []) object m) is
      (IsMarkOf-freed calls call object note.plain.within (note.apart object) before
      (within_objects marked calls r object before was) (r.each object before was)
      (note.freed object ∙ at)))
      (λ other was. IsMarkOf-apart calls call object note.plain.within (note.apart object) mark
      (within_objects marked calls r object mark was) (r.each object mark was)
      (note.freed object ∙ other))

  -- an accepted one of these
  pub noted-represents : (given : Option ℕ) → IsNotedWith given call → breaks calls call ≡ None →
      Represents (marked_noted marked given) (calls ++ call ∷ [])
  noted-represents given noted ok =
      let note = note_is given call noted in
      plain-represents marked calls call _ note.plain r ok
      (length-changed_where freed_mark given marked.objects) (all_noted given note)

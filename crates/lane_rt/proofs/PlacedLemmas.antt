-- To which set is an object held after a call, and in which lane is it?
use Rattle.std.proofs.Common.{◌≡◌, ℕ, zero, suc, ◌<◌, Bool, true, false, not, Option, Some, None, List, [], ◌∷◌, ◌++◌, length, refl, sym, ap, ◌∙◌, ⊎_elim, arith}
use Rattle.std.specs.Prelude.{◌==◌, if◌then◌else◌, slice_get, option_and_then}
use Rattle.std.specs.Option.{option_map}
use Rattle.std.proofs.lemmas.Bool.{cases_eq, eqb-true}
use Rattle.std.proofs.lemmas.Option.{none-some, same_Some, some_pair_parts}
use Rattle.ss_base.specs.Ids.{object_id, set_id}
use Rattle.ss_base.specs.declared.ids.SetId.{SetId}
use Rattle.execution_definitions.specs.declared.refusal.Refusal.TheVariants.{NotIsolating, TwoSets}
use Rattle.execution_definitions.specs.Refusals.{refuse_if, if_reading, two_sets_if}
use Rattle.execution_definitions.specs.Sets.{lane_of_set, set_under}
use Rattle.execution_definitions.specs.Shapes.{delegate}
use Rattle.execution_definitions.proofs.shapes.RefusalsLemmas.{first_of-none}
use Rattle.partition_check.specs.declared.mark.Mark.{Mark}
use Rattle.partition_check.specs.Judged.{judged, judged_delegate, unknown_read, read_only_if}
use Rattle.partition_check.specs.Marked.{Marked, mark_at, serializer_at, set_marked, held_in, set_delegated}
use Rattle.partition_check.specs.MarkedAfter.{changed_at, changed_where, freed_mark, with_set, with_reader, marked_after, marked_noted}
use Rattle.lane_objects.specs.declared.object.Object.{Object}
use Rattle.lane_objects.specs.Objects.{found_at, NoneSent}
use Rattle.lane_rt.specs.Kept.{set_held, held_at, ArePlaced}

-- ---- marks of which one was changed

set_more : (marks more : List Mark) (n : ℕ) (set : SetId) → held_at marks n ≡ Some set →
    held_at (marks ++ more) n ≡ Some set
set_more [] more n set is = absurd cc
set_more (mark ∷ marks) more zero set is = is
set_more (mark ∷ marks) more (suc n) set is = set_more marks more n set is

set_changed : (change : Mark → Mark) → ((mark : Mark) → set_held (change mark) ≡ set_held mark) →
    (marks : List Mark) (i n : ℕ) → held_at (changed_at i change marks) n ≡ held_at marks n
set_changed change same [] i n = refl
set_changed change same (mark ∷ marks) zero zero = same mark
set_changed change same (mark ∷ marks) zero (suc n) = refl
set_changed change same (mark ∷ marks) (suc i) zero = refl
set_changed change same (mark ∷ marks) (suc i) (suc n) = set_changed change same marks i n

set_changed_where : (change : Mark → Mark) → ((mark : Mark) → set_held (change mark) ≡ set_held mark) →
    (marks : List Mark) (object : Option ℕ) (n : ℕ) →
    held_at (changed_where object change marks) n ≡ held_at marks n
set_changed_where change same marks None n = refl
set_changed_where change same marks (Some object) n = set_changed change same marks object n

set_other : (change : Mark → Mark) (marks : List Mark) (i n : ℕ) → (n ≡ i → ⊥) →
    held_at (changed_at i change marks) n ≡ held_at marks n
set_other change [] i n differs = refl
set_other change (mark ∷ marks) zero zero differs = absurd (differs refl)
set_other change (mark ∷ marks) zero (suc n) differs = refl
set_other change (mark ∷ marks) (suc i) zero differs = refl
set_other change (mark ∷ marks) (suc i) (suc n) differs =
    set_other change marks i n (λ e. differs (omega (arith, e)))

set_here : (object own : ℕ) (marks : List Mark) (i : ℕ) → i < length marks →
    held_at (changed_at i (with_set object own) marks) i
    ≡ Some (set_id (set_under (serializer_at (slice_get marks i)) object own))
set_here object own [] i below = absurd (omega (arith, below))
set_here object own (mark ∷ marks) zero below = refl
set_here object own (mark ∷ marks) (suc i) below =
    set_here object own marks i (omega (arith, below))

-- ---- marks after a call

pub set_sent : (old new : Marked) (object own : ℕ) (reading : Option ℕ) →
    new ≡ marked_after old (delegate object own reading) → object < length old.objects →
    held_at new.objects object ≡ Some (set_id (set_marked (mark_at old object) object own))
set_sent old new object own reading is below =
    ap (λ marks. held_at marks.objects object) is
    ∙ set_changed_where with_reader (λ mark. refl)
    (changed_at object (with_set object own) old.objects) reading object
    ∙ set_here object own old.objects object below

pub sets_sent : (old new : Marked) (object own : ℕ) (reading : Option ℕ) →
    new ≡ marked_after old (delegate object own reading) → (n : ℕ) → (n ≡ object → ⊥) →
    held_at new.objects n ≡ held_at old.objects n
sets_sent old new object own reading is n differs =
    ap (λ marks. held_at marks.objects n) is
    ∙ set_changed_where with_reader (λ mark. refl)
    (changed_at object (with_set object own) old.objects) reading n
    ∙ set_other (with_set object own) old.objects object n differs

-- ---- the set to which an object is held

delegated_mark : (mark : Option Mark) (set : SetId) → option_and_then set_held mark ≡ Some set →
    option_and_then (λ m. m.set) mark ≡ Some set
delegated_mark None set is = absurd cc
delegated_mark (Some mark) set is = by mark.is_held is where
  by : (held : Bool) → (if held then mark.set else None) ≡ Some set → mark.set ≡ Some set
  by true is = is
  by false is = absurd cc

-- is that of its last delegation
pub held_delegated : (marks : Marked) (object : ℕ) (set : SetId) →
    held_at marks.objects object ≡ Some set → set_delegated marks object ≡ Some set
held_delegated marks object set is = delegated_mark (mark_at marks object) set is

held_number : (held : Bool) (last : Option SetId) (set : SetId) →
    (if held then last else None) ≡ Some set →
    (if held then (option_map (λ (s : SetId). s.0) last) else None) ≡ Some set.0
held_number true last set is = ap (option_map (λ (s : SetId). s.0)) is
held_number false last set is = absurd cc

same_set : (object : ℕ) (held : Option ℕ) (first second : ℕ) → held ≡ Some first →
    two_sets_if object held second ≡ None → first ≡ second
same_set object None first second is none = absurd cc
same_set object (Some k) first second is none =
    sym (same_Some k first is) ∙ by (k == second) refl none
  where
    by : (b : Bool) → (k == second) ≡ b →
        refuse_if (not b) (TwoSets (object_id object) (set_id k) (set_id second)) ≡ None → k ≡ second
    by true same none = eqb-true k second same
    by false same none = absurd cc

-- and of a delegation that is accepted
pub held_accepted : (marks : Marked) (object own : ℕ) (reading : Option ℕ) (set : SetId) →
    judged marks (delegate object own reading) ≡ None → held_at marks.objects object ≡ Some set →
    set.0 ≡ set_marked (mark_at marks object) object own
held_accepted marks object own reading set accepted is =
    by (mark_at marks object) is accepted
  where
    by : (mark : Option Mark) → option_and_then set_held mark ≡ Some set →
        judged_delegate marks object own reading mark ≡ None →
        set.0 ≡ set_marked mark object own
    by None is accepted = absurd cc
    by (Some mark) is accepted =
        let read = first_of-none (if_reading reading (unknown_read marks)) _ accepted in
        let opened = first_of-none (refuse_if (not marks.is_open) NotIsolating) _ read.1 in
        let writable = first_of-none (read_only_if object mark) _ opened.1 in
        let one_set = first_of-none
        (two_sets_if object (held_in mark) (set_marked (Some mark) object own)) _ writable.1 in
        same_set object (held_in mark) set.0 (set_marked (Some mark) object own)
        (held_number mark.is_held mark.set set is) one_set.0

module _ {C : Type 0} where
  -- ---- objects and marks

  -- all objects are at home
  pub placed_home : (objects : List (Object C)) (marks : Marked) (delegates : ℕ) →
      ((n : ℕ) → found_at objects n ≡ None) → ArePlaced objects marks delegates
  placed_home objects marks delegates home object lane number found =
      absurd (none-some _ (sym (home object) ∙ found))

  -- no object went to a lane, and marks are as they were
  pub placed_on : (old new : List (Object C)) (marks new_marks : Marked) (delegates : ℕ) →
      NoneSent old new → new_marks.objects ≡ marks.objects → ArePlaced old marks delegates →
      ArePlaced new new_marks delegates
  placed_on old new marks new_marks delegates none same placed object lane number found =
      let was = placed object lane number (none object lane number found) in
      record {
        set = was.set;
        held = ap (λ marks. held_at marks object) same ∙ was.held;
        lane_is = was.lane_is;
      }

  -- and that of an object at home was freed
  pub placed_freed : (old new : List (Object C)) (marks new_marks : Marked) (delegates o : ℕ) →
      NoneSent old new → new_marks ≡ marked_noted marks (Some o) → found_at new o ≡ None →
      ArePlaced old marks delegates → ArePlaced new new_marks delegates
  placed_freed old new marks new_marks delegates o none is home placed n lane number found =
      ⊎_elim
      (λ e. absurd (none-some _ (sym home ∙ ap (λ j. found_at new j) (sym e) ∙ found)))
      (λ differs. let was = placed n lane number (none n lane number found) in
      record {
        set = was.set;
        held = ap (λ marks. held_at marks.objects n) is
            ∙ set_other freed_mark marks.objects o n differs ∙ was.held;
        lane_is = was.lane_is;
      })
      (cases_eq n o)

  -- there are marks more
  pub placed_more : (old new : List (Object C)) (marks new_marks : Marked) (more : List Mark)
      (delegates : ℕ) → NoneSent old new → new_marks.objects ≡ marks.objects ++ more →
      ArePlaced old marks delegates → ArePlaced new new_marks delegates
  placed_more old new marks new_marks more delegates none is placed object lane number found =
      let was = placed object lane number (none object lane number found) in
      record {
        set = was.set;
        held = ap (λ marks. held_at marks object) is
            ∙ set_more marks.objects more object was.set was.held;
        lane_is = was.lane_is;
      }

  -- an object went to the lane of a set
  pub placed_sent : (old new : List (Object C)) (marks new_marks : Marked) (delegates : ℕ)
      (o own lane : ℕ) (reading : Option ℕ) (set : SetId) →
      new_marks ≡ marked_after marks (delegate o own reading) → o < length marks.objects →
      set.0 ≡ set_marked (mark_at marks o) o own → lane ≡ lane_of_set set.0 delegates →
      found_at new o ≡ Some (lane, o) →
      ((n k number : ℕ) → (n ≡ o → ⊥) → found_at new n ≡ Some (k, number) →
      found_at old n ≡ Some (k, number)) →
      ArePlaced old marks delegates → ArePlaced new new_marks delegates
  placed_sent old new marks new_marks delegates o own lane reading set after known set_is lane_is
      there others placed n k number found =
      ⊎_elim
      (λ e. let same = some_pair_parts _ _ _ _
      (sym there ∙ ap (λ j. found_at new j) (sym e) ∙ found) in
      record {
        set = set_id (set_marked (mark_at marks o) o own);
        held = ap (λ j. held_at new_marks.objects j) e
            ∙ set_sent marks new_marks o own reading after known;
        lane_is = ap (λ s. lane_of_set s delegates) (sym set_is) ∙ sym lane_is ∙ same.0;
      })
      (λ differs. let was = placed n k number (others n k number differs found) in
      record {
        set = was.set;
        held = sets_sent marks new_marks o own reading after n differs ∙ was.held;
        lane_is = was.lane_is;
      })
      (cases_eq n o)

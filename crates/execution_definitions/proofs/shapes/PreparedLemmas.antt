-- Programs that make objects, and in each epoch delegate to some of them while they read others:
-- none of their calls is refused.
use Rattle.std.proofs.Common.{◌≡◌, ◌≢◌, ℕ, ◌+◌, ◌^◌, ◌<◌, ◌≤◌, ◌⊎◌, ⊎_elim, inl, inr}
use Rattle.std.proofs.Common.{Bool, true, false, nat_le, Option, Some, None, List, [], ◌∷◌, ◌++◌}
use Rattle.std.proofs.Common.{length, refl, sym, ap, ap₂, ◌∙◌, subst, arith, append-nil}
use Rattle.std.proofs.Common.{append_assoc, length-append}
use Rattle.std.specs.Prelude.{◌==◌, ◌&&◌, ◌||◌, not, is_none, if◌then◌else◌}
use Rattle.std.specs.List.{AllByRecursion, list_any}
use Rattle.std.proofs.lemmas.Bool.{cases_lt, cases_Bool}
use Rattle.std.proofs.lemmas.Bool.Decides.{nat_tests}
use Rattle.ss_base.specs.Ids.{object_id, set_id}
use Rattle.execution_definitions.specs.declared.refusal.Refusal.{Refusal}
use Rattle.execution_definitions.specs.declared.refusal.Refusal.TheVariants as refusal
use Rattle.execution_definitions.specs.declared.serializer.By.{By}
use Rattle.execution_definitions.specs.Shapes.{Shape, make, begin, delegate, get, end}
use Rattle.execution_definitions.specs.Shapes.{total, reads}
use Rattle.execution_definitions.specs.Sets.{object_count, serializer_in, set_of, set_under}
use Rattle.execution_definitions.specs.Epochs.{isolating, this_epoch, since}
use Rattle.execution_definitions.specs.Held.{is_fixed, frees, last_set_among, held_set}
use Rattle.execution_definitions.specs.Refusals.{breaks, first_of, refuse_if, two_sets_if}
use Rattle.execution_definitions.specs.Refusals.{private_if, too_many_calls}
use Rattle.execution_definitions.specs.Soundness.{IsSound}
use Rattle.execution_definitions.proofs.shapes.SoundnessLemmas.{IsSound-push}
use Rattle.execution_definitions.proofs.shapes.EpochsLemmas.{IsWithin, isolating-within, isolating-begin}
use Rattle.execution_definitions.proofs.shapes.EpochsLemmas.{isolating-end, this_epoch-begin}
use Rattle.execution_definitions.proofs.shapes.SetsLemmas.{object_count-same, object_count-made}
use Rattle.execution_definitions.proofs.shapes.SetsLemmas.{serializer_in-kept, serializer_in-made}
use Rattle.execution_definitions.proofs.shapes.HeldLemmas.{kept_set, held_set-push, reads-push}

-- after these calls no epoch is open, and there are so many objects, all but the first writable
pub record IsPrepared (objects : ℕ) (calls : List Shape) (most : ℕ) : Type 0 where
  pub sound : IsSound calls
  pub closed : isolating calls ≡ false
  pub count : object_count calls ≡ objects
  pub few : length calls ≤ most
  pub writable : (o : ℕ) → 0 < o → o < objects → is_fixed calls o ≡ false

-- an object of some is held to no set, or to its own
abbrev IsFree : List Shape → ℕ → Type 0
IsFree calls o = (held_set calls o ≡ None) ⊎ (held_set calls o ≡ Some (set_of calls o 0))

-- in the open epoch operations can be delegated to the objects of one range, reading those of
-- another
pub record IsInEpoch (objects first past first_read past_read : ℕ) (calls : List Shape) (most : ℕ)
    : Type 0 where
  pub sound : IsSound calls
  pub opened : isolating calls ≡ true
  pub count : object_count calls ≡ objects
  pub few : length calls ≤ most
  pub writable : (o : ℕ) → 0 < o → o < objects → is_fixed calls o ≡ false
  pub free : (o : ℕ) → first ≤ o → o < past → IsFree calls o
  pub unread : (o : ℕ) → first ≤ o → o < past → list_any (reads o) (this_epoch calls) ≡ false
  pub unheld : (r : ℕ) → first_read ≤ r → r < past_read → held_set calls r ≡ None

-- ---- refusals that don't hold

-- neither of two in a row
neither : (a b : Option Refusal) → a ≡ None → b ≡ None → first_of a b ≡ None
neither a b p q = rw (p, q) refl

below_limit : (n limit : ℕ) → n < limit → nat_le limit n ≡ false
below_limit n limit below = grind arith

not_many : (calls : List Shape) (most : ℕ) → length calls ≤ most → most < 2 ^ 60
    → too_many_calls (length calls) ≡ None
not_many calls most few below =
    ap (λ b. refuse_if b refusal.TooManyCalls) (below_limit (length calls) (2 ^ 60) (omega arith))

longer : (calls : List Shape) (call : Shape) (most : ℕ) → length calls ≤ most
    → length (calls ++ call ∷ []) ≤ most + 1
longer calls call most few = rw (length-append calls (call ∷ [])) (omega arith)

-- ---- one call more

module _ (objects most : ℕ) (calls : List Shape) (room : most < 2 ^ 60) where
  -- an object is made
  pub prepared-made : (by : By) → objects < 1048576 → IsPrepared objects calls most
      → IsPrepared (objects + 1) (calls ++ make by ∷ []) (most + 1)
  prepared-made by few_objects is = record {
    sound = IsSound-push calls (make by) is.sound (neither _ _
        (rw is.count (ap (λ b. refuse_if b refusal.TooManyObjects)
        (below_limit objects 1048576 few_objects)))
        (not_many calls most is.few room));
    closed = isolating-within calls (make by) (record { no_begin = refl; no_end = refl })
        ∙ is.closed;
    count = object_count-made calls (make by) refl ∙ ap (λ n. n + 1) is.count;
    few = longer calls (make by) most is.few;
    writable = λ o some below. ⊎_elim
        (λ (before : o < objects).
        ap is_none (serializer_in-kept calls (make by) o (rw is.count before))
        ∙ is.writable o some before)
        (λ (last : objects ≤ o).
        let here : o ≡ object_count calls = rw is.count (omega arith) in
        rw (here, serializer_in-made calls (make by) refl) refl)
        (cases_lt o objects);
  }

  -- an epoch begins
  pub prepared-begun : (first past first_read past_read : ℕ)
      → past ≤ objects → past_read ≤ objects → IsPrepared objects calls most
      → IsInEpoch objects first past first_read past_read (calls ++ begin ∷ []) (most + 1)
  prepared-begun first past first_read past_read inside inside_read is =
      let none_held : (o : ℕ) → held_set (calls ++ begin ∷ []) o ≡ None =
      λ o. ap (λ epoch. last_set_among (serializer_in (calls ++ begin ∷ []) o) o
      (since (frees o) epoch)) (this_epoch-begin calls) in
      record {
        sound = IsSound-push calls begin is.sound (neither _ _
            (ap (λ b. refuse_if b refusal.Isolating) is.closed)
            (not_many calls most is.few room));
        opened = isolating-begin calls;
        count = object_count-same calls begin refl ∙ is.count;
        few = longer calls begin most is.few;
        writable = λ o some below.
            ap is_none (serializer_in-kept calls begin o (rw is.count below))
            ∙ is.writable o some below;
        free = λ o from to. inl (none_held o);
        unread = λ o from to. ap (list_any (reads o)) (this_epoch-begin calls);
        unheld = λ r from to. none_held r;
      }

  -- an object is looked at
  pub prepared-looked : (o : ℕ) → o < objects → IsPrepared objects calls most
      → IsPrepared objects (calls ++ get o ∷ []) (most + 1)
  prepared-looked o below is = record {
    sound = IsSound-push calls (get o) is.sound (neither _ _
        (rw is.count (ap (λ b. refuse_if b (refusal.UnknownObject (object_id o)))
        (below_limit o objects below)))
        (not_many calls most is.few room));
    closed = isolating-within calls (get o) (record { no_begin = refl; no_end = refl })
        ∙ is.closed;
    count = object_count-same calls (get o) refl ∙ is.count;
    few = longer calls (get o) most is.few;
    writable = λ k some inside.
        ap is_none (serializer_in-kept calls (get o) k (rw is.count inside))
        ∙ is.writable k some inside;
  }

  -- the total is looked at
  pub prepared-total : IsPrepared objects calls most → IsSound (calls ++ total ∷ [])
  prepared-total is =
      IsSound-push calls total is.sound (neither _ _
      (ap (λ b. refuse_if b refusal.Isolating) is.closed)
      (not_many calls most is.few room))

-- ---- in an epoch

-- the refusals of a delegation, in their order
none_of_nine : (a b c d e f g h i : Option Refusal)
    → a ≡ None → b ≡ None → c ≡ None → d ≡ None → e ≡ None → f ≡ None → g ≡ None → h ≡ None
    → i ≡ None
    → first_of a (first_of b (first_of c (first_of d (first_of e
    (first_of f (first_of g (first_of h i))))))) ≡ None
none_of_nine a b c d e f g h i pa pb pc pd pe pf pg ph pi =
    rw (pa, pb, pc, pd, pe, pf, pg, ph, pi) refl

same_set : (object set : ℕ) (held : Option ℕ) → (held ≡ None) ⊎ (held ≡ Some set)
    → two_sets_if object held set ≡ None
same_set object set held is = ⊎_elim
    (λ none. ap (λ h. two_sets_if object h set) none)
    (λ some.
    let same : (set == set) ≡ true = grind (arith, nat_tests) in
    ap (λ h. two_sets_if object h set) some
    ∙ ap (λ b. refuse_if (not b) (refusal.TwoSets (object_id object) (set_id set) (set_id set))) same)
    is

other_number : (i j : ℕ) → i ≢ j → (i == j) ≡ false
other_number i j other = ⊎_elim
    (λ same. absurd (other (grind (arith, nat_tests)))) (λ differ. differ) (cases_Bool (i == j))

no_private : (fixed : Bool) (r : ℕ) → (if fixed then None else private_if r None) ≡ None
no_private true r = refl
no_private false r = refl

-- a delegation to an object of the first range, which reads one of the second
pub record IsApart (first past first_read past_read : ℕ) (call : Shape) : Type 0 where
  pub object : ℕ
  pub read : ℕ
  pub is : call ≡ delegate object 0 (Some read)
  pub from : first ≤ object
  pub to : object < past
  pub from_read : first_read ≤ read
  pub to_read : read < past_read

-- what holds an object after a delegation, which gives it its own set or leaves it
held_after : (here : Bool) (held now : Option ℕ) (set set_now : ℕ) → set_now ≡ set
    → (held ≡ None) ⊎ (held ≡ Some set) → now ≡ (if here then (Some set) else held)
    → (now ≡ None) ⊎ (now ≡ Some set_now)
held_after true held now set set_now same is after = inr (after ∙ ap (λ s. Some s) (sym same))
held_after false held now set set_now same is after = ⊎_elim
    (λ none. inl (after ∙ none))
    (λ some. inr (after ∙ some ∙ ap (λ s. Some s) (sym same)))
    is

module _ (objects first past first_read past_read : ℕ)
    (some : 0 < first) (inside : past ≤ objects) (inside_read : past_read ≤ objects)
    (apart : (past ≤ first_read) ⊎ (past_read ≤ first)) where
  differ : (i j : ℕ) → first ≤ i → i < past → first_read ≤ j → j < past_read → i ≢ j
  differ i j f p fr pr = λ same. ⊎_elim
      (λ before. absurd (omega arith)) (λ behind. absurd (omega arith)) apart

  module _ (calls : List Shape) (most object read : ℕ) (room : most < 2 ^ 60)
      (is : IsInEpoch objects first past first_read past_read calls most)
      (from : first ≤ object) (to : object < past)
      (from_read : first_read ≤ read) (to_read : read < past_read) where
    abbrev call : Shape
    call = delegate object 0 (Some read)

    within : IsWithin call
    within = record { no_begin = refl; no_end = refl }

    allowed : breaks calls call ≡ None
    allowed = none_of_nine _ _ _ _ _ _ _ _ _
        (rw is.count (ap (λ b. refuse_if b (refusal.UnknownObject (object_id object)))
        (below_limit object objects (omega arith))))
        (rw is.count (ap (λ b. refuse_if b (refusal.UnknownObject (object_id read)))
        (below_limit read objects (omega arith))))
        (ap (λ b. refuse_if (not b) refusal.NotIsolating) is.opened)
        (ap (λ b. refuse_if b (refusal.ReadOnly (object_id object)))
        (is.writable object (omega arith) (omega arith)))
        (same_set object (set_of calls object 0) (held_set calls object) (is.free object from to))
        (ap₂ (λ a b. refuse_if (not a && b) (refusal.Shared (object_id object)))
        (is.writable object (omega arith) (omega arith)) (is.unread object from to))
        (ap (λ b. refuse_if b (refusal.SelfRead (object_id read)))
        (other_number read object (λ same. differ object read from to from_read to_read (sym same))))
        (ap (λ held. if (is_fixed calls read) then None else private_if read held)
        (is.unheld read from_read to_read) ∙ no_private (is_fixed calls read) read)
        (not_many calls most is.few room)

    -- what holds each object after it
    held_now : (k : ℕ) → k < objects
        → held_set (calls ++ call ∷ []) k
        ≡ (if (object == k) then (Some (set_of calls k 0)) else (held_set calls k))
    held_now k below =
        held_set-push calls call k within (rw is.count below)
        ∙ ap (λ opened. if opened
        then (kept_set (serializer_in calls k) k (held_set calls k) call) else None) is.opened

    kept_serializer : (k : ℕ) → k < objects
        → serializer_in (calls ++ call ∷ []) k ≡ serializer_in calls k
    kept_serializer k below = serializer_in-kept calls call k (rw is.count below)

    pub in_epoch-delegated :
        IsInEpoch objects first past first_read past_read (calls ++ call ∷ []) (most + 1)
    in_epoch-delegated = record {
      sound = IsSound-push calls call is.sound allowed;
      opened = isolating-within calls call within ∙ is.opened;
      count = object_count-same calls call refl ∙ is.count;
      few = longer calls call most is.few;
      writable = λ o positive below.
          ap is_none (kept_serializer o below) ∙ is.writable o positive below;
      free = λ k f p.
          held_after (object == k) (held_set calls k) (held_set (calls ++ call ∷ []) k)
          (set_of calls k 0) (set_of (calls ++ call ∷ []) k 0)
          (ap (λ s. set_under s k 0) (kept_serializer k (omega arith)))
          (is.free k f p) (held_now k (omega arith));
      unread = λ k f p.
          reads-push calls call k within
          ∙ ap₂ (λ a b. a || b) (is.unread k f p)
          (ap₂ (λ a b. a && b) is.opened
          (other_number read k (λ same. differ k read f p from_read to_read (sym same))));
      unheld = λ r fr pr.
          held_now r (omega arith)
          ∙ ap (λ b. if b then (Some (set_of calls r 0)) else (held_set calls r))
          (other_number object r (differ object r from to fr pr))
          ∙ is.unheld r fr pr;
    }

  -- an epoch ends
  pub in_epoch-ended : (calls : List Shape) (most : ℕ) → most < 2 ^ 60
      → IsInEpoch objects first past first_read past_read calls most
      → IsPrepared objects (calls ++ end ∷ []) (most + 1)
  in_epoch-ended calls most room is = record {
    sound = IsSound-push calls end is.sound (neither _ _
        (ap (λ b. refuse_if (not b) refusal.NotIsolating) is.opened)
        (not_many calls most is.few room));
    closed = isolating-end calls;
    count = object_count-same calls end refl ∙ is.count;
    few = longer calls end most is.few;
    writable = λ o positive below.
        ap is_none (serializer_in-kept calls end o (rw is.count below))
        ∙ is.writable o positive below;
  }

-- ---- many calls more

-- what each of some calls keeps, as long as there are fewer than a limit, holds after all of them
pub each-kept : (P : List Shape → ℕ → Type 0) (limit : ℕ) (more calls : List Shape) (most : ℕ)
    → AllByRecursion (λ call. (list : List Shape) (n : ℕ) → n < limit → P list n
    → P (list ++ call ∷ []) (n + 1)) more
    → most + length more ≤ limit → P calls most → P (calls ++ more) (most + length more)
each-kept P limit [] calls most each room start =
    let none : most + 0 ≡ most = omega arith in
    rw (append-nil calls, none) start
each-kept P limit (call ∷ more) calls most each room start =
    let same : most + 1 + length more ≡ most + length (call ∷ more) = omega arith in
    subst (λ list. P list (most + length (call ∷ more))) (append_assoc calls (call ∷ []) more)
    (subst (P ((calls ++ call ∷ []) ++ more)) same
    (each-kept P limit more (calls ++ call ∷ []) (most + 1) each.1 (omega arith)
    (each.0 calls most (omega arith) start)))

-- a whole epoch
pub prepared-epoch : (objects first past first_read past_read : ℕ) → 0 < first → past ≤ objects
    → past_read ≤ objects → (past ≤ first_read) ⊎ (past_read ≤ first)
    → (calls more : List Shape) (most : ℕ) → most + length more + 2 ≤ 2 ^ 60
    → AllByRecursion (IsApart first past first_read past_read) more
    → IsPrepared objects calls most
    → IsPrepared objects (calls ++ (begin ∷ more ++ end ∷ [])) (most + length more + 2)
prepared-epoch objects first past first_read past_read some inside inside_read apart calls more most
    room each is =
    let begun =
    prepared-begun objects most calls (omega arith) first past first_read past_read inside
    inside_read is in
    let ran =
    each-kept (IsInEpoch objects first past first_read past_read) (2 ^ 60) more
    (calls ++ begin ∷ []) (most + 1) (steps more each) (omega arith) begun in
    let ended =
    in_epoch-ended objects first past first_read past_read some inside inside_read apart
    ((calls ++ begin ∷ []) ++ more) (most + 1 + length more) (omega arith) ran in
    let same : most + 1 + length more + 1 ≡ most + length more + 2 = omega arith in
    subst (λ list. IsPrepared objects list (most + length more + 2))
    (ap (λ list. list ++ end ∷ []) (append_assoc calls (begin ∷ []) more)
    ∙ append_assoc calls (begin ∷ more) (end ∷ []))
    (subst (IsPrepared objects (((calls ++ begin ∷ []) ++ more) ++ end ∷ [])) same ended)
  where
    steps : (delegations : List Shape)
        → AllByRecursion (IsApart first past first_read past_read) delegations
        → AllByRecursion (λ call. (list : List Shape) (n : ℕ) → n < 2 ^ 60
        → IsInEpoch objects first past first_read past_read list n
        → IsInEpoch objects first past first_read past_read (list ++ call ∷ []) (n + 1)) delegations
    steps [] all = tt
    steps (d ∷ ds) all = (
      λ list n below now.
          subst (λ call. IsInEpoch objects first past first_read past_read (list ++ call ∷ []) (n + 1))
          (sym all.0.is)
          (in_epoch-delegated objects first past first_read past_read some inside inside_read apart
          list n all.0.object all.0.read below now all.0.from all.0.to all.0.from_read
          all.0.to_read),
      steps ds all.1,
    )

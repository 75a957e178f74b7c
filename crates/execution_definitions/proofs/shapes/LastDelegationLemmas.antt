-- The law of an object's last delegation.
use Rattle.std.proofs.Common.{◌≡◌, ◌⊎◌, ⊎_elim, inl, inr, ℕ, Bool, true, false, ◌||◌, Option, Some, None, List, [], ◌∷◌, ◌++◌, fold, refl, sym, ap, ◌∙◌, subst, append-nil, append_assoc, arith}
use Rattle.std.specs.Prelude.{if◌then◌else◌, ◌==◌}
use Rattle.std.specs.List.{list_any}
use Rattle.std.proofs.lemmas.Bool.{eqb-true, or_parts}
use Rattle.std.proofs.lemmas.Bool.Decides.{nat_tests}
use Rattle.std.proofs.lemmas.Option.{same_Some}
use Rattle.std.proofs.lemmas.List.Sums.{fold-append}
use Rattle.std.proofs.lemmas.List.Folds.{list_any-append}
use Rattle.execution_definitions.specs.declared.serializer.Serializer.{Serializer}
use Rattle.execution_definitions.specs.Shapes.{Shape, make, make_fixed, begin, delegate, write, get, end, total, is_begin, is_end}
use Rattle.execution_definitions.specs.Sets.{serializer_in, set_under}
use Rattle.execution_definitions.specs.Epochs.{since_step, since, isolating, this_epoch}
use Rattle.execution_definitions.specs.Held.{frees, later_set, last_set_among, last_set, held_set}
use Rattle.execution_definitions.specs.Laws.{delegates_to, IsOpenEpoch, IsLastDelegation, WasDelegatedTo, HeldFromItsLastDelegation}
use Rattle.execution_definitions.proofs.shapes.LawsLemmas.{since_splits, begin_if, since_none, epoch_is_open}

-- ---- the open epoch's calls

-- what stands behind the last begin of a list, of which these calls are the recent ones
last_begin : (rest front recent : List Shape) → list_any is_begin recent ≡ false →
    list_any is_end recent ≡ false → list_any is_end rest ≡ false →
    IsOpenEpoch ((front ++ begin ∷ recent) ++ rest) (fold (since_step is_begin) recent rest)
last_begin [] front recent no_begin no_end ends = record {
  before = front;
  is = append-nil (front ++ begin ∷ recent);
  no_begin = no_begin;
  no_end = no_end;
}
last_begin (call ∷ rest) front recent no_begin no_end ends =
    by_tests (is_begin call) (is_end call) refl refl ends (last_begin rest) where
      by_tests : (begins is_last : Bool) → is_begin call ≡ begins → is_end call ≡ is_last →
          (is_last || list_any is_end rest) ≡ false →
          ((front recent : List Shape) → list_any is_begin recent ≡ false →
          list_any is_end recent ≡ false → list_any is_end rest ≡ false →
          IsOpenEpoch ((front ++ begin ∷ recent) ++ rest)
          (fold (since_step is_begin) recent rest)) →
          IsOpenEpoch ((front ++ begin ∷ recent) ++ call ∷ rest)
          (fold (since_step is_begin) (if begins then [] else (recent ++ call ∷ [])) rest)
      by_tests begins true is at ends go = absurd cc
      by_tests true false is at ends go =
          subst (λ list. IsOpenEpoch list (fold (since_step is_begin) [] rest))
          (append_assoc (front ++ begin ∷ recent) (begin ∷ []) rest
          ∙ ap (λ first. (front ++ begin ∷ recent) ++ first ∷ rest) (sym (begin_if call is)))
          (go (front ++ begin ∷ recent) [] refl refl ends)
      by_tests false false is at ends go =
          subst (λ list. IsOpenEpoch list (fold (since_step is_begin) (recent ++ call ∷ []) rest))
          (append_assoc front (begin ∷ recent ++ call ∷ []) rest
          ∙ ap (λ list. front ++ begin ∷ list) (append_assoc recent (call ∷ []) rest)
          ∙ sym (append_assoc front (begin ∷ recent) (call ∷ rest)))
          (go front (recent ++ call ∷ [])
          (rw (list_any-append, no_begin, is) refl) (rw (list_any-append, no_end, at) refl) ends)

-- an open epoch has its calls behind a begin
this_epoch-open : (calls : List Shape) → isolating calls ≡ true → IsOpenEpoch calls (this_epoch calls)
this_epoch-open calls opened =
    let has = (epoch_is_open calls).0 opened in
    let found = last_begin has.rest has.front [] refl refl has.no_end in
    let since_is : since is_begin calls ≡ fold (since_step is_begin) [] has.rest =
    ap (since is_begin) has.is ∙ fold-append (since_step is_begin) [] has.front (begin ∷ has.rest) in
    let list_is : (has.front ++ begin ∷ []) ++ has.rest ≡ calls =
    append_assoc has.front (begin ∷ []) has.rest ∙ sym has.is in
    rw (opened, since_is) (subst (λ list. IsOpenEpoch list (fold (since_step is_begin) [] has.rest))
    list_is found)

-- calls behind a begin, of which none begins or ends an epoch, are the open epoch's
this_epoch-is : (calls epoch : List Shape) → IsOpenEpoch calls epoch → this_epoch calls ≡ epoch
this_epoch-is calls epoch found =
    let opened = (epoch_is_open calls).1
    (record { front = found.before; rest = epoch; is = found.is; no_end = found.no_end }) in
    let since_is : since is_begin calls ≡ epoch =
    ap (since is_begin) found.is
    ∙ fold-append (since_step is_begin) [] found.before (begin ∷ epoch)
    ∙ since_none is_begin epoch [] found.no_begin in
    rw (opened) since_is

-- ---- the last of some calls that delegates to the object

eqb_same : (n : ℕ) → (n == n) ≡ true
eqb_same n = grind (arith, nat_tests)

module _ (s : Option Serializer) (object : ℕ) where
  -- calls that don't delegate to the object leave the earlier set
  later-none : (calls : List Shape) (earlier : Option ℕ) →
      list_any (delegates_to object) calls ≡ false →
      fold (later_set s object) earlier calls ≡ earlier
  later-none [] earlier none = refl
  later-none (delegate o own reading ∷ calls) earlier none =
      by_test (o == object) none (later-none calls earlier) where
        by_test : (test : Bool) → (test || list_any (delegates_to object) calls) ≡ false →
            (list_any (delegates_to object) calls ≡ false →
            fold (later_set s object) earlier calls ≡ earlier) →
            fold (later_set s object)
            (if test then (Some (set_under s object own)) else earlier) calls ≡ earlier
        by_test true none rest = absurd cc
        by_test false none rest = rest none
  later-none (make by ∷ calls) earlier none = later-none calls earlier none
  later-none (make_fixed ∷ calls) earlier none = later-none calls earlier none
  later-none (begin ∷ calls) earlier none = later-none calls earlier none
  later-none (write o ∷ calls) earlier none = later-none calls earlier none
  later-none (get o ∷ calls) earlier none = later-none calls earlier none
  later-none (end ∷ calls) earlier none = later-none calls earlier none
  later-none (total ∷ calls) earlier none = later-none calls earlier none

  -- the last delegation among calls, to this set
  record IsLastTo (calls : List Shape) (set : ℕ) : Type 0 where
    own : ℕ
    after : List Shape
    last : IsLastDelegation calls object own after
    set_is : set ≡ set_under s object own

  -- with a call before
  later_still : (call : Shape) (calls : List Shape) (set : ℕ) → IsLastTo calls set →
      IsLastTo (call ∷ calls) set
  later_still call calls set found = record {
    own = found.own;
    after = found.after;
    last = record {
      before = call ∷ found.last.before;
      reading = found.last.reading;
      is = ap (λ list. call ∷ list) found.last.is;
      last = found.last.last;
    };
    set_is = found.set_is;
  }

  -- a set that calls leave is the earlier one, or that of the last delegation among them
  abbrev WasEarlier : List Shape → Option ℕ → ℕ → Type 0
  WasEarlier calls earlier set =
      (earlier ≡ Some set) × (list_any (delegates_to object) calls ≡ false)

  other_first : (call : Shape) (calls : List Shape) (earlier : Option ℕ) (set : ℕ) →
      delegates_to object call ≡ false →
      WasEarlier calls earlier set ⊎ IsLastTo calls set →
      WasEarlier (call ∷ calls) earlier set ⊎ IsLastTo (call ∷ calls) set
  other_first call calls earlier set other found = ⊎_elim
      (λ was. inl (was.0, rw other was.1))
      (λ later. inr (later_still call calls set later))
      found

  found_last : (calls : List Shape) (earlier : Option ℕ) (set : ℕ) →
      fold (later_set s object) earlier calls ≡ Some set →
      WasEarlier calls earlier set ⊎ IsLastTo calls set
  found_last [] earlier set is = inl (is, refl)
  found_last (delegate o own reading ∷ calls) earlier set is =
      by_test (o == object) refl is (λ was. found_last calls was set) where
        by_test : (test : Bool) → (o == object) ≡ test →
            fold (later_set s object)
            (if test then (Some (set_under s object own)) else earlier) calls ≡ Some set →
            ((was : Option ℕ) → fold (later_set s object) was calls ≡ Some set →
            WasEarlier calls was set ⊎ IsLastTo calls set) →
            WasEarlier (delegate o own reading ∷ calls) earlier set
            ⊎ IsLastTo (delegate o own reading ∷ calls) set
        by_test false other is rest =
            other_first (delegate o own reading) calls earlier set other (rest earlier is)
        by_test true same is rest = ⊎_elim
            (λ was. inr (record {
              own = own;
              after = calls;
              last = record {
                before = [];
                reading = reading;
                is = ap (λ n. delegate n own reading ∷ calls) (eqb-true o object same);
                last = was.1;
              };
              set_is = sym (same_Some _ _ was.0);
            }))
            (λ later. inr (later_still (delegate o own reading) calls set later))
            (rest (Some (set_under s object own)) is)
  found_last (make by ∷ calls) earlier set is =
      other_first (make by) calls earlier set refl (found_last calls earlier set is)
  found_last (make_fixed ∷ calls) earlier set is =
      other_first make_fixed calls earlier set refl (found_last calls earlier set is)
  found_last (begin ∷ calls) earlier set is =
      other_first begin calls earlier set refl (found_last calls earlier set is)
  found_last (write o ∷ calls) earlier set is =
      other_first (write o) calls earlier set refl (found_last calls earlier set is)
  found_last (get o ∷ calls) earlier set is =
      other_first (get o) calls earlier set refl (found_last calls earlier set is)
  found_last (end ∷ calls) earlier set is =
      other_first end calls earlier set refl (found_last calls earlier set is)
  found_last (total ∷ calls) earlier set is =
      other_first total calls earlier set refl (found_last calls earlier set is)

  -- the set of the last delegation among calls is found in them
  last_found : (calls : List Shape) (set : ℕ) → last_set_among s object calls ≡ Some set →
      IsLastTo calls set
  last_found calls set is = ⊎_elim
      (λ was. absurd (let none = was.0 in cc))
      (λ found. found)
      (found_last calls None set is)

  -- and is that of such a delegation
  last_is : (calls : List Shape) (set : ℕ) → IsLastTo calls set →
      last_set_among s object calls ≡ Some set
  last_is calls set found =
      let last = found.last in
      rw (
        last.is,
        fold-append (later_set s object) None last.before
            (delegate object found.own last.reading ∷ found.after),
        eqb_same object,
        later-none found.after (Some (set_under s object found.own)) last.last,
        found.set_is,
      ) refl

  -- ---- the same behind the last call that frees the object

  -- the last delegation among calls, to this set, with nothing behind it that frees
  abbrev IsHeldTo : List Shape → ℕ → Type 0
  IsHeldTo calls set =
      (found : IsLastTo calls set) × (list_any (frees object) found.after ≡ false)

  held_found : (calls : List Shape) (set : ℕ) →
      last_set_among s object (since (frees object) calls) ≡ Some set → IsHeldTo calls set
  held_found calls set is =
      let split = since_splits (frees object) calls [] [] refl in
      let found = last_found (since (frees object) calls) set is in
      let last = found.last in
      let call = delegate object found.own last.reading in
      let kept : list_any (frees object) (last.before ++ call ∷ found.after) ≡ false =
      ap (list_any (frees object)) (sym last.is) ∙ split.none in (
        record {
          own = found.own;
          after = found.after;
          last = record {
            before = split.front ++ last.before;
            reading = last.reading;
            is = split.is ∙ ap (λ list. split.front ++ list) last.is
                ∙ sym (append_assoc split.front last.before (call ∷ found.after));
            last = last.last;
          };
          set_is = found.set_is;
        },
        (or_parts (list_any (frees object) last.before) _
            (sym (list_any-append (frees object) last.before (call ∷ found.after)) ∙ kept)).1,
      )

  held_is : (calls : List Shape) (set : ℕ) → IsHeldTo calls set →
      last_set_among s object (since (frees object) calls) ≡ Some set
  held_is calls set held =
      let found = held.0 in
      let last = found.last in
      let call = delegate object found.own last.reading in
      let before = since (frees object) last.before in
      let behind : since (frees object) calls ≡ before ++ call ∷ found.after =
      ap (since (frees object)) last.is
      ∙ fold-append (since_step (frees object)) [] last.before (call ∷ found.after)
      ∙ since_none (frees object) found.after (before ++ call ∷ []) held.1
      ∙ append_assoc before (call ∷ []) found.after in
      ap (last_set_among s object) behind
      ∙ last_is (before ++ call ∷ found.after) set (record {
        own = found.own;
        after = found.after;
        last = record {
          before = before;
          reading = last.reading;
          is = refl;
          last = last.last;
        };
        set_is = found.set_is;
      })

-- ---- the law

this_epoch-closed : (calls : List Shape) → isolating calls ≡ false → this_epoch calls ≡ []
this_epoch-closed calls closed = rw closed refl

module _ (calls : List Shape) (object set : ℕ) where
  abbrev s : Option Serializer
  s = serializer_in calls object

  to_last : (epoch : List Shape) → IsOpenEpoch calls epoch → (found : IsLastTo s object epoch set) →
      WasDelegatedTo calls object set found.after
  to_last epoch opened found = record {
    epoch = epoch;
    is_open = opened;
    own = found.own;
    last = found.last;
    set_is = found.set_is;
  }

  abbrev from_last : (after : List Shape) (was : WasDelegatedTo calls object set after) →
      IsLastTo s object was.epoch set
  from_last after was =
      record { own = was.own; after = after; last = was.last; set_is = was.set_is }

  last_then : last_set calls object ≡ Some set →
      (after : List Shape) × WasDelegatedTo calls object set after
  last_then is = by_case (isolating calls) refl where
    by_case : (opened : Bool) → isolating calls ≡ opened →
        (after : List Shape) × WasDelegatedTo calls object set after
    by_case true opened =
        let found = last_found s object (this_epoch calls) set is in
        (found.after, to_last (this_epoch calls) (this_epoch-open calls opened) found)
    by_case false closed =
        let none = ap (last_set_among s object) (this_epoch-closed calls closed) in absurd cc

  held_then : held_set calls object ≡ Some set →
      (after : List Shape) × WasDelegatedTo calls object set after
      × (list_any (frees object) after ≡ false)
  held_then is = by_case (isolating calls) refl where
    by_case : (opened : Bool) → isolating calls ≡ opened →
        (after : List Shape) × WasDelegatedTo calls object set after
        × (list_any (frees object) after ≡ false)
    by_case true opened =
        let held = held_found s object (this_epoch calls) set is in (
          held.0.after,
          to_last (this_epoch calls) (this_epoch-open calls opened) held.0,
          held.1,
        )
    by_case false closed =
        let none =
        ap (λ list. last_set_among s object (since (frees object) list))
        (this_epoch-closed calls closed) in
        absurd cc

  pub held_from_its_last_delegation : HeldFromItsLastDelegation calls object set
  held_from_its_last_delegation = record {
    last = (
      last_then,
      λ told.
          ap (last_set_among s object) (this_epoch-is calls told.1.epoch told.1.is_open)
          ∙ last_is s object told.1.epoch set (from_last told.0 told.1),
    );
    held = (
      held_then,
      λ told.
          ap (λ list. last_set_among s object (since (frees object) list))
          (this_epoch-is calls told.1.epoch told.1.is_open)
          ∙ held_is s object told.1.epoch set (from_last told.0 told.1, told.2),
    );
  }

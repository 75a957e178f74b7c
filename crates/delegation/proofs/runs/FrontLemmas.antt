-- Lists of runs that are the front of others.
use Rattle.std.proofs.Common.{◌≡◌, ℕ, zero, suc, Bool, Some, List, [], ◌∷◌, ◌++◌, length, refl, sym, ap, ◌∙◌, subst, append-nil, append_assoc, arith}
use Rattle.std.specs.Prelude.{slice_get, slice_set}
use Rattle.std.proofs.lemmas.List.{length-set}
use Rattle.std.proofs.lemmas.Option.{same_Some, slice_get_within, slice_get-get_or}
use Rattle.ss_base.specs.declared.ids.Run.{Run}
use Rattle.delegation.specs.Runtimes.{IsFront, AreFronts, HasDone}
use Rattle.delegation.specs.Answers.{with_run}

-- a list is the front of an equal one
front_same : (front whole : List Run) → Some front ≡ Some whole → IsFront front whole
front_same front whole same =
    let is = same_Some _ _ same in
    ([], sym is ∙ sym (append-nil front))

pub fronts_same : (lists : List (List Run)) → AreFronts lists lists
fronts_same lists = record {
  count = refl;
  each = λ lane front whole is_front is_whole. front_same front whole (sym is_front ∙ is_whole);
}

-- a lane that did all did the first of it
pub done_same : (lists : List (List Run)) (is_open : Bool) → HasDone lists lists is_open
done_same lists is_open = record { fronts = fronts_same lists; all = λ closed. refl }

pub length-with_run : (lane : ℕ) (run : Run) (lists : List (List Run)) →
    length (with_run lane run lists) ≡ length lists
length-with_run lane run [] = refl
length-with_run zero run (runs ∷ lists) = refl
length-with_run (suc lane) run (runs ∷ lists) =
    let rest = length-with_run lane run lists in omega arith

front-with_run : (lane : ℕ) (run : Run) (lists : List (List Run)) (at : ℕ)
    (front whole : List Run) → slice_get lists at ≡ Some front →
    slice_get (with_run lane run lists) at ≡ Some whole → IsFront front whole
front-with_run lane run [] at front whole is_front is_whole = absurd cc
front-with_run zero run (runs ∷ lists) zero front whole is_front is_whole = (
  run ∷ [],
  sym (same_Some _ _ is_whole)
      ∙ ap (λ first. first ++ run ∷ []) (same_Some _ _ is_front),
)
front-with_run zero run (runs ∷ lists) (suc at) front whole is_front is_whole =
    front_same front whole (sym is_front ∙ is_whole)
front-with_run (suc lane) run (runs ∷ lists) zero front whole is_front is_whole =
    front_same front whole (sym is_front ∙ is_whole)
front-with_run (suc lane) run (runs ∷ lists) (suc at) front whole is_front is_whole =
    front-with_run lane run lists at front whole is_front is_whole

-- one run more leaves each list the front of what it becomes
pub fronts-with_run : (lane : ℕ) (run : Run) (lists : List (List Run)) →
    AreFronts lists (with_run lane run lists)
fronts-with_run lane run lists = record {
  count = sym (length-with_run lane run lists);
  each = front-with_run lane run lists;
}

-- the front of a front
front_trans : (a b c : List Run) → IsFront a b → IsFront b c → IsFront a c
front_trans a b c first second = (
  first.0 ++ second.0,
  second.1 ∙ ap (λ runs. runs ++ second.0) first.1 ∙ append_assoc a first.0 second.0,
)

pub fronts_trans : (a b c : List (List Run)) → AreFronts a b → AreFronts b c → AreFronts a c
fronts_trans a b c first second = record {
  count = first.count ∙ second.count;
  each = λ lane front whole is_front is_whole.
      let below = slice_get_within a lane front is_front in
      let count = first.count in
      let middle = slice_get-get_or b lane front (omega (arith, below, count)) in
      front_trans front _ whole (first.each lane front _ is_front middle)
      (second.each lane _ whole middle is_whole);
}

pub front_here : (a b rest : List Run) → Some a ≡ Some b → IsFront a (b ++ rest)
front_here a b rest same = (rest, ap (λ runs. runs ++ rest) (sym (same_Some _ _ same)))

each_front : (logs : List (List Run)) (l : ℕ) (log more : List Run) → slice_get logs l ≡ Some log →
    (n : ℕ) (front whole : List Run) → slice_get logs n ≡ Some front →
    slice_get (slice_set logs l (log ++ more)) n ≡ Some whole → IsFront front whole
each_front [] l log more at n front whole is_front is_whole = absurd cc
each_front (first ∷ logs) zero log more at zero front whole is_front is_whole =
    subst (λ runs. IsFront front runs) (same_Some _ _ is_whole)
    (front_here front log more (sym is_front ∙ at))
each_front (first ∷ logs) zero log more at (suc n) front whole is_front is_whole =
    front_same front whole (sym is_front ∙ is_whole)
each_front (first ∷ logs) (suc l) log more at zero front whole is_front is_whole =
    front_same front whole (sym is_front ∙ is_whole)
each_front (first ∷ logs) (suc l) log more at (suc n) front whole is_front is_whole =
    each_front logs l log more at n front whole is_front is_whole

-- a log that goes on
pub fronts_more : (logs : List (List Run)) (l : ℕ) (log more : List Run) →
    slice_get logs l ≡ Some log → AreFronts logs (slice_set logs l (log ++ more))
fronts_more logs l log more at = record {
  count = sym (length-set logs l (log ++ more));
  each = each_front logs l log more at;
}

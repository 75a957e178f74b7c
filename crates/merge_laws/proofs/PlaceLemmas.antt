-- What must stand before what, where a list is parted at two places.
use Rattle.std.proofs.Common.{◌≡◌, ℕ, zero, suc, ◌+◌, ◌<◌, ◌≤◌, Bool, true, false, ◌&&◌, Option, Some, None, List, [], ◌∷◌, ◌++◌, length, take, refl, ap, ◌∙◌, subst, arith, append_assoc, length-append}
use Rattle.std.specs.Prelude.{slice_get}
use Rattle.std.proofs.lemmas.Bool.Decides.{nat_tests}
use Rattle.std.proofs.Math.Seq.{take-append_seam}
use Rattle.execution_definitions.specs.Shapes.{Shape, make, make_fixed, begin, delegate, write, get, end, total}
use Rattle.interleavings.specs.Merges.{lane_of_call, lane_at, waits_for, waits_for_lane, must_stand_before}
use Rattle.interleavings.proofs.shapes.HoldingLemmas.{is_delegate, HasBarrier}
use Rattle.execution_definitions.proofs.lists.ListLemmas.{slice_get-append_seam}

-- a list, parted at a place
pub record IsSplit {A : Type 0} (list : List A) (place : ℕ) : Type 0 where
  pub front : List A
  pub here : A
  pub rest : List A
  pub is : list ≡ front ++ here ∷ rest
  pub count : length front ≡ place

pub split_at : {A : Type 0} (list : List A) (place : ℕ) → place < length list → IsSplit list place
split_at [] place within = absurd (omega arith)
split_at (first ∷ list) zero within =
    record { front = []; here = first; rest = list; is = refl; count = refl }
split_at (first ∷ list) (suc place) within =
    let s = split_at list place (omega arith) in
    record {
      front = first ∷ s.front;
      here = s.here;
      rest = s.rest;
      is = ap (λ l. first ∷ l) s.is;
      count = ap suc s.count;
    }

pub no_lane : (n : ℕ) (before : List Shape) (call : Shape) → is_delegate call ≡ false →
    lane_of_call n before (Some call) ≡ None
no_lane n before (make by) none = refl
no_lane n before make_fixed none = refl
no_lane n before begin none = refl
no_lane n before (delegate o own reading) none = absurd cc
no_lane n before (write o) none = refl
no_lane n before (get o) none = refl
no_lane n before end none = refl
no_lane n before total none = refl

pub both : (a b : Bool) → a ≡ true → b ≡ true → (a && b) ≡ true
both true b first second = second
both false b first second = absurd cc

module _ (n : ℕ) (calls before : List Shape) (call : Shape) (after : List Shape)
    (parted : calls ≡ before ++ call ∷ after) where
  pub lane_here : lane_at n calls (length before) ≡ lane_of_call n before (Some call)
  lane_here = rw (parted, take-append_seam before (call ∷ after), slice_get-append_seam before call after)
      refl

  -- nothing may overtake the program context
  pub overtakes_none : is_delegate call ≡ false → (second : ℕ) → length before < second →
      must_stand_before n calls (length before) second ≡ true
  overtakes_none none second later =
      both _ _ (grind (arith, nat_tests))
      (ap (λ (lane : Option ℕ). waits_for_lane n lane (take second calls) (slice_get calls second))
      (lane_here ∙ no_lane n before call none))

  -- what waits for the lane of the call stands after it
  pub waits_here : (until : List Shape) (second : Shape) (rest : List Shape) (lane : ℕ) →
      calls ≡ until ++ second ∷ rest → length before < length until →
      lane_of_call n before (Some call) ≡ Some lane →
      waits_for_lane n (Some lane) until (Some second) ≡ true →
      must_stand_before n calls (length before) (length until) ≡ true
  waits_here until second rest lane at later is waits =
      let front : take (length until) calls ≡ until =
      ap (take (length until)) at ∙ take-append_seam until (second ∷ rest) in
      let found : slice_get calls (length until) ≡ Some second =
      ap (λ (l : List Shape). slice_get l (length until)) at
      ∙ slice_get-append_seam until second rest in
      both _ _ (grind (arith, nat_tests))
      (ap (λ (l : Option ℕ). waits_for_lane n l (take (length until) calls)
      (slice_get calls (length until))) (lane_here ∙ is)
      ∙ ap (λ (l : List Shape). waits_for_lane n (Some lane) l (slice_get calls (length until)))
      front
      ∙ ap (λ (c : Option Shape). waits_for_lane n (Some lane) until c) found
      ∙ waits)

-- a place between two that must stand behind the first and before the second
pub record IsBetween (n : ℕ) (calls : List Shape) (one two : ℕ) : Type 0 where
  pub between : ℕ
  pub low : one ≤ between
  pub first : must_stand_before n calls one between ≡ true
  pub second : must_stand_before n calls between two ≡ true

regroup_two : (P : List Shape) (h : Shape) (F : List Shape) (k : Shape) (U : List Shape) →
    P ++ h ∷ (F ++ k ∷ U) ≡ ((P ++ h ∷ []) ++ F) ++ k ∷ U
regroup_two P h F k U = simp append_assoc

length_two : (P : List Shape) (h : Shape) (F : List Shape) →
    length ((P ++ h ∷ []) ++ F) ≡ length P + suc (length F)
length_two P h F = simp length-append (omega arith)

module _ (n : ℕ) (calls P : List Shape) (h : Shape) (later : List Shape)
    (these : calls ≡ P ++ h ∷ later) (X : List Shape) (t : Shape) (Y : List Shape)
    (parted : later ≡ X ++ t ∷ Y) (lane : ℕ) (its : lane_of_call n P (Some h) ≡ Some lane) where
  must_at : (F : List Shape) (k : Shape) (U : List Shape) → later ≡ F ++ k ∷ U →
      waits_for n lane ((P ++ h ∷ []) ++ F) (Some k) ≡ true →
      must_stand_before n calls (length P) (length P + suc (length F)) ≡ true
  must_at F k U at waits =
      let long = length_two P h F in
      subst (λ q. must_stand_before n calls (length P) q ≡ true) long
      (waits_here n calls P h later these ((P ++ h ∷ []) ++ F) k U lane
      (these ∙ ap (λ l. P ++ h ∷ l) at ∙ regroup_two P h F k U) (omega arith) its waits)

  pub waits_stands : waits_for n lane ((P ++ h ∷ []) ++ X) (Some t) ≡ true →
      must_stand_before n calls (length P) (length P + suc (length X)) ≡ true
  waits_stands waits = must_at X t Y parted waits

  pub barrier_stands : HasBarrier n lane (P ++ h ∷ []) X →
      IsBetween n calls (length P) (length P + suc (length X))
  barrier_stands b =
      let at : later ≡ b.front ++ b.call ∷ (b.rest ++ t ∷ Y) =
      parted ∙ ap (λ l. l ++ t ∷ Y) b.is ∙ append_assoc b.front (b.call ∷ b.rest) (t ∷ Y) in
      let until = (P ++ h ∷ []) ++ b.front in
      let long : length until ≡ length P + suc (length b.front) = length_two P h b.front in
      let X_length : length X ≡ length b.front + suc (length b.rest) =
      ap length b.is ∙ length-append b.front (b.call ∷ b.rest) in
      record {
        between = length P + suc (length b.front);
        low = omega arith;
        first = must_at b.front b.call (b.rest ++ t ∷ Y) at b.waits;
        second = subst (λ q. must_stand_before n calls q (length P + suc (length X)) ≡ true) long
            (overtakes_none n calls until b.call (b.rest ++ t ∷ Y)
            (these ∙ ap (λ l. P ++ h ∷ l) at ∙ regroup_two P h b.front b.call (b.rest ++ t ∷ Y))
            b.no_delegate (length P + suc (length X)) (omega arith));
      }

use Rattle.std.proofs.Common.{◌≡◌, ℕ, ◌+◌, ◌-◌, ◌<◌, ◌≤◌, ◌^◌, ◌∷◌, [], ◌++◌, ◌∙◌, List, arith, ap, sym}
use Rattle.std.proofs.Common.{subst, take, drop, length, get_or, refl, rules, true}
use Rattle.std.specs.Prelude.{◌==◌, vec_len}
use Rattle.std.proofs.lemmas.List.{take_more, drop_more, drop_all}
use Rattle.std.proofs.lemmas.Grind.{common_steps}
use Rattle.postings.specs.Spelling.{SpellsNumber, SpellsPositions}
use Rattle.postings.specs.Stuck.{AreStuck, IsNumberUpTo, ArePositionBytes}
use Rattle.postings.proofs.SpellingLemmas.{number-some}
use Rattle.postings.proofs.StuckLemmas.{number_stuck-none}
use Rattle.postings.proofs.ReadingLemmas.{HaveRead, HaveRead-more, HaveRead-closed, ArePositions-spelt}
use Rattle.postings.proofs.ReadingLemmas.{positions_stuck, behind-is, stuck-behind, take_two}
use Rattle.postings.proofs.decoding.read_positions.Goals as goal
use Rattle.postings.proofs.decoding.read_positions.Goals.{else-bytes-at-eq0-via-then-bytes-at-eq0+else-not-is_empty}
use Rattle.postings.proofs.decoding.read_positions.Goals.{else-bytes-at-eq0-via-else-bytes-at-eq0}

nothing_there : (n : ℕ) → true ≡ (n == 0) → n ≡ 0
nothing_there n is = grind (arith, common_steps)

pub returns-then-not-is_empty-clause-spelt : goal.returns-then-not-is_empty-clause-spelt
returns-then-not-is_empty-clause-spelt c =
    let bytes = c.args.bytes.now in
    let at = c.loop-at.at in
    let done = c.loop-at.positions.items in
    let zero_is : get_or bytes at 0 ≡ 0 = c.if-bytes-at-eq0.true in
    subst (λ es. SpellsPositions 0 es done)
    (sym (take_more bytes at 0 c.loop-at-test.true ∙ ap (λ b. take at bytes ++ b ∷ []) zero_is))
    (HaveRead-closed (take at bytes) done c.loop-at.last c.loop-at.invariant.read)

pub returns-then-not-is_empty-clause-positions : goal.returns-then-not-is_empty-clause-positions
returns-then-not-is_empty-clause-positions c =
    let bytes = c.args.bytes.now in
    let at = c.loop-at.at in
    let done = c.loop-at.positions.items in
    let some : 0 < length done = search rules in
    ArePositions-spelt (take at bytes ++ 0 ∷ []) done
    (HaveRead-closed (take at bytes) done c.loop-at.last c.loop-at.invariant.read) some

pub loop-at-preserved : goal.loop-at-preserved
loop-at-preserved c =
    let bytes = c.args.bytes.now in
    let at = c.loop-at.at in
    let done = c.loop-at.positions.items in
    let last = c.loop-at.last in
    let len = c.in-Ok.len in
    let gap = c.in-Ok.gap in
    let tail = drop at bytes in
    let long : length tail ≡ length bytes - at = grind (arith, common_steps) in
    let within : len ≤ length tail =
    subst (λ bs. len ≤ length bs) (behind-is at bytes) c.in-Ok.ensures.within in
    let spelt : SpellsNumber (take len tail) gap =
    subst (λ bs. SpellsNumber (take len bs) gap) (behind-is at bytes) c.in-Ok.ensures.spelt in
    let some = number-some (take len tail) gap spelt in
    let small : last + gap < 2 ^ 32 =
    omega (arith, c.in-Ok.ensures.small, c.loop-at.auto.last-fits) in
    let more = HaveRead-more (take at bytes) done last (take len tail) gap (last + gap)
    c.loop-at.invariant.read spelt some refl small in
    record {
      within = omega (arith, within, long, c.loop-at-test.true);
      read = subst (λ es. HaveRead es c.push.new.self.items (last + gap))
          (sym (take_two at len bytes c.loop-at.invariant.within))
          (subst (λ ns. HaveRead (take at bytes ++ take len tail) ns (last + gap))
          (sym c.in_ok-push-in-Ok.ensures.items) more);
    }

pub returns-in-Err-clause-stuck : goal.returns-in-Err-clause-stuck
returns-in-Err-clause-stuck c = λ place same.
    let bytes = c.args.bytes.now in
    let at = c.loop-at.at in
    let done = c.loop-at.positions.items in
    let last = c.loop-at.last in
    let more = c.in-Err.more in
    let limit = 4294967295 - last in
    let is : at + more ≡ place = cc same in
    let within = c.loop-at.invariant.within in
    let most : last + limit + 1 ≡ 2 ^ 32 = omega (arith, c.loop-at.auto.last-fits) in
    let stuck : AreStuck (IsNumberUpTo limit) (drop at bytes) more =
    subst (λ bs. AreStuck (IsNumberUpTo limit) bs more) (behind-is at bytes)
    c.in-Err.ensures.stuck in
    let split = drop_more bytes at 0 c.loop-at-test.true in
    let open_ : (rest : List ℕ) → 0 < length done → drop at bytes ≡ 0 ∷ rest → ⊥ =
    λ rest some zero_first.
    let first : get_or bytes at 0 ∷ drop (at + 1) bytes ≡ 0 ∷ rest = sym split ∙ zero_first in
    let zero_is : get_or bytes at 0 ≡ 0 = cc first in
    elim c.else-bytes-at-eq0.branch [
      | else-bytes-at-eq0-via-then-bytes-at-eq0+else-not-is_empty w ↦
          let empty : true ≡ (vec_len c.loop-at.positions == 0) = w.if-not-is_empty.ensures in
          omega (
            arith,
            nothing_there (vec_len c.loop-at.positions) empty,
            c.loop-at.positions.ok.0,
            some,
          )
      | else-bytes-at-eq0-via-else-bytes-at-eq0 w ↦ w.if-bytes-at-eq0.false zero_is
    ] in
    subst (AreStuck ArePositionBytes bytes) is
    (stuck-behind ArePositionBytes at bytes more within
    (positions_stuck (take at bytes) done last limit (drop at bytes) more c.loop-at.invariant.read
    most open_ stuck))

pub returns-clause-stuck : goal.returns-clause-stuck
returns-clause-stuck c = λ place same.
    let bytes = c.args.bytes.now in
    let at = c.loop-at.at in
    let done = c.loop-at.positions.items in
    let last = c.loop-at.last in
    let limit = 4294967295 - last in
    let at_is : at ≡ place = cc same in
    let is : at + 0 ≡ place = omega (arith, at_is) in
    let within = c.loop-at.invariant.within in
    let most : last + limit + 1 ≡ 2 ^ 32 = omega (arith, c.loop-at.auto.last-fits) in
    let none : drop at bytes ≡ [] = drop_all at bytes (omega (arith, c.loop-at-test.false)) in
    let stuck : AreStuck (IsNumberUpTo limit) (drop at bytes) 0 =
    subst (λ bs. AreStuck (IsNumberUpTo limit) bs 0) (sym none) (number_stuck-none limit) in
    let open_ : (rest : List ℕ) → 0 < length done → drop at bytes ≡ 0 ∷ rest → ⊥ =
    λ rest some zero_first.
    let both : [] ≡ 0 ∷ rest = sym none ∙ zero_first in cc both in
    subst (AreStuck ArePositionBytes bytes) is
    (stuck-behind ArePositionBytes at bytes 0 within
    (positions_stuck (take at bytes) done last limit (drop at bytes) 0 c.loop-at.invariant.read
    most open_ stuck))

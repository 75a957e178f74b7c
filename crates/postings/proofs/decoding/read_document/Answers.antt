use Rattle.std.proofs.Common.{◌≡◌, ℕ, ◌+◌, ◌-◌, ◌<◌, ◌≤◌, ◌^◌, List, arith, sym, subst, take, drop}
use Rattle.std.proofs.Common.{refl, ap, Err}
use Rattle.postings.specs.Spelling.{SpellsNumber, SpellsNext, SpellsPositions}
use Rattle.postings.specs.Stuck.{AreStuck, IsDocumentAbove, ArePositionBytes}
use Rattle.postings.proofs.SpellingLemmas.{number-some}
use Rattle.postings.proofs.ReadingLemmas.{difference, behind-is, stuck-behind, take_two}
use Rattle.postings.proofs.ReadingLemmas.{document_stuck-number, document_stuck-positions}
use Rattle.postings.proofs.decoding.read_document.Goals as goal

-- the number in front is that of a document
next-is : (before gap : ℕ) (number : List ℕ) → SpellsNumber number gap → gap ≤ 4294967295 - before
    → before < 2 ^ 32 → SpellsNext before number (before + gap)
next-is before gap number spelt small fits = (
  omega (arith, number-some number gap spelt),
  omega (arith, small, fits),
  subst (SpellsNumber number) (sym (difference before gap (before + gap) refl)) spelt,
)

pub returns-in-Ok-read_positions-clause-spelt : goal.returns-in-Ok-read_positions-clause-spelt
returns-in-Ok-read_positions-clause-spelt c =
    let bytes = c.args.bytes.now in
    let len = c.in-Ok.len in
    let more = c.in-Ok-read_positions.more in
    let ns = c.read_positions.new.positions.items in (
      take len bytes,
      take more (drop len bytes),
      take_two len more bytes c.in-Ok.ensures.within,
      next-is c.args.before c.in-Ok.gap (take len bytes) c.in-Ok.ensures.spelt
          c.in-Ok.ensures.small (omega (arith, c.ranges.before.fits)),
      c.in-Ok-read_positions.ensures.positions.some,
      subst (λ bs. SpellsPositions 0 (take more bs) ns) (behind-is len bytes)
          c.in-Ok-read_positions.ensures.spelt,
    )

pub returns-in-Err-BadPostings-clause-stuck : goal.returns-in-Err-BadPostings-clause-stuck
returns-in-Err-BadPostings-clause-stuck c = λ place same.
    let bytes = c.args.bytes.now in
    let len = c.in-Ok.len in
    let at = c.in-Err-BadPostings.at in
    let is : len + at ≡ place = cc same in
    let stuck = subst (λ bs. AreStuck ArePositionBytes bs at) (behind-is len bytes)
    (c.in-Err-BadPostings.ensures.stuck at (ap Err c.in-Err-BadPostings.field-0-is)) in
    let next = next-is c.args.before c.in-Ok.gap (take len bytes) c.in-Ok.ensures.spelt
    c.in-Ok.ensures.small (omega (arith, c.ranges.before.fits)) in
    subst (AreStuck (IsDocumentAbove c.args.before) bytes) is
    (stuck-behind (IsDocumentAbove c.args.before) len bytes at c.in-Ok.ensures.within
    (document_stuck-positions c.args.before (c.args.before + c.in-Ok.gap) (take len bytes)
    (drop len bytes) at next stuck))

pub returns-in-Err-clause-stuck : goal.returns-in-Err-clause-stuck
returns-in-Err-clause-stuck c = λ place same.
    let at = c.in-Err.at in
    let is : at ≡ place = cc same in
    subst (AreStuck (IsDocumentAbove c.args.before) c.args.bytes.now) is
    (document_stuck-number c.args.before (4294967295 - c.args.before) c.args.bytes.now at
    (omega (arith, c.ranges.before.fits)) c.in-Err.ensures.stuck)

use Rattle.std.proofs.Common.{◌≡◌, ◌+◌, ◌-◌, ◌<◌, true, length, slice_index, sym, ap, ◌∙◌, arith}
use Rattle.ascii_words.specs.AsciiWords.{is_run, is_bridge}
use Rattle.ascii_words.proofs.places.StepLemmas.{IsOn-start, IsOn-run, IsOn-bridge, IsFirstEnd-cut}
use Rattle.ascii_words.proofs.places.StepLemmas.{IsCutAt-run_end, IsCutAt-end}
use Rattle.ascii_words.proofs.places.StepLemmas.{is_run-bridged, bridged-inside}
use Rattle.ascii_words.proofs.bytes.piece_end.Goals as goal

pub loop-end-init : goal.loop-end-init
loop-end-init c =
    let text = c.args.text.now in
    let back : c.args.start + 1 - 1 ≡ c.args.start = omega arith in
    record {
      walk = IsOn-start text c.requires.ascii c.args.start c.requires.some;
      run = ap (λ i. is_run (slice_index text i)) back ∙ c.requires.run;
    }

pub loop-end-preserved-then-is_run : goal.loop-end-preserved-then-is_run
loop-end-preserved-then-is_run c =
    let text = c.args.text.now in
    let i = c.loop-end.end in
    let before = c.loop-end.invariant in
    let back : i + 1 - 1 ≡ i = omega arith in
    let next = sym c.if-is_run.ensures in
    record {
      walk =
          IsOn-run text c.requires.ascii c.args.start i before.walk c.loop-end-test.true
          before.run next;
      run = ap (λ k. is_run (slice_index text k)) back ∙ next;
    }

pub loop-end-preserved : goal.loop-end-preserved
loop-end-preserved c =
    let text = c.args.text.now in
    let i = c.loop-end.end in
    let before = slice_index text (i - 1) in
    let mid = slice_index text i in
    let bridge : is_bridge before mid (slice_index text (i + 1)) ≡ true =
    sym c.if-is_bridge_at.ensures in
    let inside : i + 1 < length text = bridged-inside text before mid (i + 1) bridge in
    let back : i + 2 - 1 ≡ i + 1 = omega arith in
    record {
      walk =
          IsOn-bridge text c.requires.ascii c.args.start i c.loop-end.invariant.walk inside bridge;
      run =
          ap (λ k. is_run (slice_index text k)) back
          ∙ is_run-bridged before mid (slice_index text (i + 1)) bridge;
    }

pub returns-else-is_bridge_at-clause-cut : goal.returns-else-is_bridge_at-clause-cut
returns-else-is_bridge_at-clause-cut c =
    let some = c.loop-end.invariant.walk.grows in
    IsCutAt-run_end c.args.text.now c.loop-end.end c.requires.ascii (omega arith)
    c.loop-end-test.true c.loop-end.invariant.run
    (sym c.if-is_run.ensures) (sym c.if-is_bridge_at.ensures)

pub returns-else-is_bridge_at-clause-end : goal.returns-else-is_bridge_at-clause-end
returns-else-is_bridge_at-clause-end c =
    IsFirstEnd-cut c.args.text.now c.requires.ascii c.args.start c.loop-end.end
    c.loop-end.invariant.walk (returns-else-is_bridge_at-clause-cut c)

pub returns-clause-cut : goal.returns-clause-cut
returns-clause-cut c =
    let within = c.loop-end.invariant.walk.within in
    let past = c.loop-end-test.false in
    IsCutAt-end c.args.text.now c.loop-end.end (omega arith)

pub returns-clause-end : goal.returns-clause-end
returns-clause-end c =
    IsFirstEnd-cut c.args.text.now c.requires.ascii c.args.start c.loop-end.end
    c.loop-end.invariant.walk (returns-clause-cut c)

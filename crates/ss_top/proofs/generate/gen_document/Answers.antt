use Rattle.std.proofs.Common.{ap, ap₂, sym, ◌∙◌, ◌+◌, ◌++◌, length, arith}
use Rattle.ss_top.specs.Generated.{state_after, generated_word}
use Rattle.ss_top.proofs.GeneratedLemmas.{state_at-more, generated_document-more}
use Rattle.ss_top.proofs.GeneratedLemmas.{length-generated_document-le}
use Rattle.ss_top.proofs.generate.gen_document.Goals as goal

pub loop-preserved : goal.loop-preserved
loop-preserved c =
    let pushed = rw c.if-not-branch.false at c.in_ok-push_word.ensures in
    let first = c.args.state.now in
    let state =
    c.next_state.ensures.value ∙ ap state_after c.loop.invariant.state
    ∙ sym (state_at-more first c.loop.counter) in
    record {
      state = state;
      bound = c.next_state.ensures.bound;
      words =
          pushed.0 ∙ ap₂ (λ t x. t ++ generated_word x) c.loop.invariant.words state
          ∙ sym (generated_document-more c.loop.counter first);
      within = pushed.1;
    }

pub returns-then-not-branch : goal.returns-then-not-branch
returns-then-not-branch c =
    let passes = rw c.if-not-branch.true at c.in_ok-push_word.ensures in
    let first = c.args.state.now in
    let state =
    c.next_state.ensures.value ∙ ap state_after c.loop.invariant.state
    ∙ sym (state_at-more first c.loop.counter) in
    let longer =
    ap₂ (λ t x. t ++ generated_word x) c.loop.invariant.words state
    ∙ sym (generated_document-more c.loop.counter first) in
    omega (
      arith,
      passes,
      ap length longer,
      length-generated_document-le (c.loop.counter + 1) c.args.words first
          (omega (arith, c.loop-test.true)),
    )

use Rattle.std.proofs.Common.{◌≡◌, ◌^◌, ◌<◌, ◌≤◌, vec_len}
use Rattle.ss_top.specs.Generated.{state_at, generated_document}
use Rattle.ss_top.proofs.generate.gen_document.Given as goal

-- the words so far, and the state of the last of them
abbrev pub invariant-loop : goal.invariant-loop
invariant-loop l =
    record {
      state : l.state ≡ state_at l.fn.state l.counter;
      bound : l.state < 2 ^ 31;
      words : l.document.items ≡ generated_document l.counter l.fn.state;
      within : vec_len l.document ≤ l.most;
    }

use Rattle.std.proofs.Common.{Some, sym, ◌∙◌}
use Rattle.delegation.proofs.plains.PlainLemmas.{length-noted}
use Rattle.delegation.proofs.plain.PlainRuntime.do_call.Goals as goal

pub invariant_of-self-2 : goal.invariant_of-self-2
invariant_of-self-2 g c =
    let kept = c.args.self.now.kept in
    record {
      kept = record {
        marked = λ usable. c.operate.ensures.count ∙ kept.marked usable
            ∙ sym (length-noted _ _ (Some c.args.o.0) c.note_call.ensures.after);
        one_log = kept.one_log;
      };
    }

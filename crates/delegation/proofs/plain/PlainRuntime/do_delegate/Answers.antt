use Rattle.std.proofs.Common.{rules, refl, sym, ◌∙◌}
use Rattle.delegation.proofs.runs.FrontLemmas.{fronts-with_run, done_same}
use Rattle.delegation.proofs.plains.PlainLemmas.{length-delegated}
use Rattle.delegation.proofs.plain.PlainRuntime.do_delegate.Goals as goal

pub invariant_of-self-in-Ok-log_run : goal.invariant_of-self-in-Ok-log_run
invariant_of-self-in-Ok-log_run g c =
    let kept = c.args.self.now.kept in
    record {
      kept = record {
        marked = λ usable. c.in-Ok.ensures.count ∙ kept.marked usable
            ∙ sym (length-delegated _ _ c.args.o.0 _ _ c.in_ok-set.ensures.after);
        one_log = c.in-Ok-log_run.ensures.length ∙ kept.one_log;
      };
    }

pub returns-clause-answered : goal.returns-clause-answered
returns-clause-answered g c =
    let logged = c.in-Ok-log_run.ensures.logged in (
      record {
        allowed = search rules;
        delegates = refl;
        state = c.in-Ok.ensures.state;
        marks = search rules;
        sent = search rules;
        logs = rw logged (fronts-with_run 0 _ _);
        done = done_same _ _;
        reclaimed = tt;
        was_usable = search rules;
        usable = search rules;
      },
      search rules,
    )

use Rattle.std.proofs.Common.{◌≡◌, take}
use Rattle.script_lang.specs.ScriptCalls.{listed_calls, ends_within_epoch}
use Rattle.script_lang.proofs.shown.RunningLemmas.{OnWay}
use Rattle.script_lang.proofs.running.run_script.Given as goal

-- the commands so far are made, and their lines are appended
abbrev pub invariant-loop-placed : goal.invariant-loop-placed
invariant-loop-placed g l = record {
  way : OnWay l.script (g.D.Runtime.seen l.d) (listed_calls (take l.placed-index l.placed-items))
      l.text.items;
  is_open : l.is_open ≡ ends_within_epoch (listed_calls (take l.placed-index l.placed-items));
}

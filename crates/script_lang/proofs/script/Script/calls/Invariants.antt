use Rattle.std.proofs.Common.{◌≡◌, take}
use Rattle.script_lang.specs.ScriptCalls.{listed_calls, ends_within_epoch}
use Rattle.script_lang.proofs.script.Script.calls.Given as goal

abbrev pub invariant-loop-placed : goal.invariant-loop-placed
invariant-loop-placed l = record {
  calls : l.calls.items ≡ listed_calls (take l.placed-index l.placed-items);
  is_open : l.is_open ≡ ends_within_epoch (listed_calls (take l.placed-index l.placed-items));
}

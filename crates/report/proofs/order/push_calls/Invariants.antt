use Rattle.std.proofs.Common.{◌≡◌, ◌++◌, take}
use Rattle.std.specs.List.{flat_map}
use Rattle.report.specs.Traces.{call_text}
use Rattle.report.proofs.order.push_calls.Given as goal

-- the calls so far are appended
abbrev pub invariant-loop-call : goal.invariant-loop-call
invariant-loop-call l =
    l.text.items
    ≡ l.fn.text.items ++ flat_map (λ call. call_text call.0) (take l.call-index l.calls)

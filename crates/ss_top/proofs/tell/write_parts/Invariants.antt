use Rattle.std.proofs.Common.{◌≤◌, take}
use Rattle.std.specs.Io.KnownBytes.{Appends}
use Rattle.std.specs.List.{flat_map}
use Rattle.ss_top.proofs.tell.write_parts.Given as goal

-- the stream gained the parts so far, and its count hasn't fallen
abbrev pub invariant-loop-part : goal.invariant-loop-part
invariant-loop-part g l =
    record {
      never_falls : g.E.Sink.faults l.initial.err ≤ g.E.Sink.faults l.err;
      gained :
          Appends (g.E.Sink.gained l.initial.err) (g.E.Sink.gained l.err)
          (flat_map (λ part. part.now) (take l.part-index l.parts));
    }

use Rattle.std.proofs.Common.{◌≡◌, ◌+◌, ◌-◌, ◌≤◌, length, take}
use Rattle.std.specs.Io.KnownBytes.{Appends}
use Rattle.ss_base.proofs.transfer.write_all.Given as goal

-- the sink gained the bytes that are done, and its count has not fallen
abbrev pub invariant-loop-done : goal.invariant-loop-done
invariant-loop-done g l =
    record {
      within : l.done ≤ length l.bytes;
      never_falls : g.K.Sink.faults l.initial.sink ≤ g.K.Sink.faults l.sink;
      sure :
          length l.bytes ≤ g.K.Sink.sure l.initial.sink →
          (g.K.Sink.faults l.sink ≡ g.K.Sink.faults l.initial.sink)
          × (g.K.Sink.sure l.initial.sink ≤ g.K.Sink.sure l.sink + l.done);
      gained : Appends (g.K.Sink.gained l.initial.sink) (g.K.Sink.gained l.sink) (take l.done l.bytes);
    }

abbrev pub decreases-loop-done : goal.decreases-loop-done
decreases-loop-done g l = length l.bytes - l.done

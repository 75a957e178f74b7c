use Rattle.std.proofs.Common.{◌≡◌, ◌∙◌, None, false, refl, sym, ap, map, string_bytes}
use Rattle.command_line.specs.CommandLine.{outcome}
use Rattle.ss_top.specs.Runs.{names_replay, replay_only}
use Rattle.ss_top.proofs.ReplayWordsLemmas.{replay_only-unnamed, replay_only-other}
use Rattle.ss_top.proofs.RunsLemmas.{Runs-usage, TellsStatus-usage}
use Rattle.ss_top.proofs.replaying.replay_run.Goals as goal

pub returns-then-not-names_replay-clause-usage : goal.returns-then-not-names_replay-clause-usage
returns-then-not-names_replay-clause-usage g c =
    let other : names_replay (map string_bytes c.args.words.now) ≡ false =
    sym c.names_replay.ensures ∙ c.if-not-names_replay.true in
    (λ _. replay_only-unnamed (map string_bytes c.args.words.now) other, λ _. refl)

pub returns-then-not-names_replay-clause-runs : goal.returns-then-not-names_replay-clause-runs
returns-then-not-names_replay-clause-runs g c =
    let other : names_replay (map string_bytes c.args.words.now) ≡ false =
    sym c.names_replay.ensures ∙ c.if-not-names_replay.true in
    rw (replay_only-unnamed (map string_bytes c.args.words.now) other)
    (Runs-usage g.L.Shelf g.K.Sink c.args.shelf.now c.args.out.now)

pub returns-in_default : goal.returns-in_default
returns-in_default g c =
    let none : replay_only (outcome (map string_bytes c.args.words.now)) ≡ None =
    ap replay_only c.in-Ok.ensures.ok
    ∙ replay_only-other c.in-Ok.command c.in_default.not-Replay in
    record {
      usage = (λ _. none, λ _. refl);
      runs = rw none (Runs-usage g.L.Shelf g.K.Sink c.args.shelf.now c.args.out.now);
      tells =
          rw none (TellsStatus-usage (g.L.Shelf.contents c.args.shelf.now)
          (g.E.Sink.gained c.args.err.now) (g.E.Sink.gained c.tell_usage-in_default.new.err)
          (g.E.Sink.faults c.args.err.now) (g.E.Sink.faults c.tell_usage-in_default.new.err)
          c.tell_usage-in_default.ensures);
    }

use Rattle.std.proofs.Common.{refl, sym, ap, ◌∙◌, length, []}
use Rattle.std.proofs.lemmas.List.{length-replicate}
use Rattle.delegation.proofs.runs.SentLemmas.{none_sent_to_lanes}
use Rattle.lane_store.proofs.IdleLemmas.{idle_apart}
use Rattle.lane_objects.specs.Objects.{found_at}
use Rattle.lane_rt.proofs.CallLemmas.{store_done}
use Rattle.lane_rt.proofs.PlacedLemmas.{placed_home}
use Rattle.lane_ends.specs.Workers.{home_given}
use Rattle.lane_rt.proofs.lanes.Lanes.new.Goals as goal

pub invariant_of-result : goal.invariant_of-result
invariant_of-result g c =
    let store = c.in_ok-new_store.field-0 in
    let new = c.in_ok-new_store.ensures in
    record {
      some_delegate = c.requires.some;
      at_most_64 = c.requires.at_most_64;
      kept = λ usable. record {
        whole = record {
          apart = rw new.objects (idle_apart g.C.Class.meaning home_given store.ends.items new.idle);
          lanes = λ n end at. (new.idle n end at).whole;
          made = new.made;
        };
        marked = ap length new.objects ∙ sym c.new.ensures.objects;
        lane_count = new.lanes;
        log_count = ap length new.logs ∙ length-replicate c.args.n [];
        idle = λ closed. new.idle;
        placed = placed_home store.objects.items _ _ (λ n. ap (λ os. found_at os n) new.objects);
      };
    }

pub returns : goal.returns
returns g c =
    let store = c.in_ok-new_store.field-0 in
    let new = c.in_ok-new_store.ensures in
    record {
      after = record {
        state = new.state;
        marks = c.new.ensures;
        sent = new.sent ∙ new.logs ∙ none_sent_to_lanes c.args.n c.requires.some;
        logs = store_done g.C.Class.meaning home_given store _
            (ap length new.logs ∙ length-replicate c.args.n [] ∙ sym new.lanes)
            (λ closed. new.idle);
      };
      delegates = refl;
      usable = refl;
    }

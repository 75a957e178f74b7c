use Rattle.std.proofs.Common.{◌≡◌, ◌++◌, [], refl, sym, ap, ◌∙◌}
use Rattle.delegates.specs.Stores.{stored}
use Rattle.set_queue.specs.Ends.{sent, received}
use Rattle.lane_ends.specs.LaneEnds.{each_finds}
use Rattle.lane_ends.proofs.EndLemmas.{since_is}
use Rattle.lane_ends.proofs.lane_end.new_end.Goals as goal

pub returns : goal.returns
returns g c =
    let m = g.C.LocalClass.local_meaning in
    let sender = c.in_ok-sender.sender in
    let receiver = c.in_ok-sender.receiver in
    let made = c.in_ok-sender.ensures in
    let all : sent sender ≡ received receiver ++ [] =
    made.sent ∙ sym (ap (λ xs. xs ++ []) made.received.0) in
    let none = since_is sender (record { store = c.new.result; receiver = receiver }) [] all in
    record {
      whole = record {
        one = made.one;
        first = all ∙ ap (λ xs. received receiver ++ xs) (sym none);
        unbroken = ap (λ s. s.is_broken) c.new.ensures;
        served = ap (λ xs. each_finds m (stored c.new.result) xs) none;
      };
      program = refl;
      empty = c.new.ensures;
      none = none;
    }

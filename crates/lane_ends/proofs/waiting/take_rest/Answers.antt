use Rattle.std.proofs.Common.{sym, ap, ◌∙◌, ◌++◌, append-nil}
use Rattle.std.proofs.lemmas.Bool.{false≢true}
use Rattle.set_queue.specs.Ends.{received, known}
use Rattle.delegates.proofs.WorkLemmas.{returned_as_it_was, returned_more}
use Rattle.lane_ends.proofs.EndLemmas.{same_sender, still_one_there, returned_looked, nothing_known}
use Rattle.lane_ends.proofs.waiting.take_rest.Goals as goal

pub loop-m-init : goal.loop-m-init
loop-m-init g c =
    let m = g.C.LocalClass.local_meaning in
    let e = c.meet.ensures in
    record {
      back = returned_looked m c.args.home c.args.home.store c.args.home.receiver c.meet.new.r
          (returned_as_it_was m c.args.home) e.receiver.0 e.receiver.1;
      one = e.one;
      same = e.sender.0;
      kept = e.sender.1;
      all = e.all;
    }

pub meet-requires-in-Some : goal.meet-requires-in-Some
meet-requires-in-Some g c =
    still_one_there c.loop-m.sender c.loop-m.receiver c.try_next.new.self c.loop-m.invariant.one
    c.try_next.ensures.end

pub loop-m-preserved : goal.loop-m-preserved
loop-m-preserved g c =
    let m = g.C.LocalClass.local_meaning in
    let was = c.loop-m.invariant in
    let e = c.meet-in-Some.ensures in
    record {
      back = returned_looked m c.args.home c.take.new.self c.try_next.new.self
          c.meet-in-Some.new.r
          (returned_more m c.args.home c.loop-m.store c.take.new.self c.loop-m.receiver
          c.try_next.new.self c.in-Some.m was.back c.try_next.ensures.end
          c.in-Some.ensures.some.0 c.take.ensures.taken c.take.ensures.unchanged)
          e.receiver.0 e.receiver.1;
      one = e.one;
      same = same_sender c.args.sender.now c.loop-m.sender c.meet-in-Some.new.s was.same
          e.sender.0;
      kept = e.sender.1 ∙ was.kept;
      all = e.all;
    }

pub returns-clause-one : goal.returns-clause-one
returns-clause-one g c =
    still_one_there c.loop-m.sender c.loop-m.receiver c.try_next.new.self c.loop-m.invariant.one
    c.try_next.ensures.end

pub returns-clause-end : goal.returns-clause-end
returns-clause-end g c = c.loop-m.invariant.same

pub returns-clause-sent : goal.returns-clause-sent
returns-clause-sent g c = c.loop-m.invariant.kept

pub returns-clause-back : goal.returns-clause-back
returns-clause-back g c =
    returned_looked g.C.LocalClass.local_meaning c.args.home c.loop-m.store c.loop-m.receiver
    c.try_next.new.self c.loop-m.invariant.back c.try_next.ensures.end
    c.in_default.ensures.none.0

pub returns-clause-all : goal.returns-clause-all
returns-clause-all g c =
    let was = c.loop-m.invariant in
    let receiver = c.loop-m.receiver in
    c.in_default.ensures.none.0 ∙ sym (append-nil (received receiver))
    ∙ ap (λ xs. received receiver ++ xs)
    (sym (nothing_known (known receiver)
    (λ some. false≢true (c.in_default.ensures.succeeds some))))
    ∙ was.all ∙ was.kept

use Rattle.std.proofs.Common.{◌≡◌, ℕ, Bool, true, refl, length, sym, ap, ◌∙◌, Some, arith}
use Rattle.std.specs.Prelude.{slice_get}
use Rattle.std.proofs.lemmas.Bool.{both_ways}
use Rattle.std.proofs.lemmas.Option.{slice_get_read}
use Rattle.std.proofs.lemmas.Result.{on_ok_weaker}
use Rattle.lane_objects.specs.declared.object.Object.{Object}
use Rattle.lane_objects.specs.Objects.{lane_and_number, found_in, found_at}
use Rattle.lane_store.specs.declared.store.LaneStore.{LaneStore}
use Rattle.lane_store.proofs.IdleLemmas.{still_home}
use Rattle.lane_store.proofs.ReadLemmas.{reads_home}
use Rattle.lane_store.proofs.StoreLemmas.{continues_on, sends_after}
use Rattle.lane_store.proofs.sends.delegate.Goals as goal

pub follow-requires : goal.follow-requires
follow-requires g c =
    let store = c.share.new.store in
    let on = c.in_ok-reading.ensures.continues in
    let o = c.args.run.object.0 in
    let known = c.requires.known in
    let lane = c.requires.lane in
    let objects = on.objects in
    let lanes = on.lanes in
    let at = slice_get_read store.objects.items (length store.objects.items) o c.index.result.now
    refl (omega (arith, known, objects)) c.index.ensures in
    let there = c.is_there.ensures.there c.if-is_there.true in
    let found = ap found_in at ∙ there.1 in
    record {
      can = c.requires.can;
      means = c.requires.means;
      whole = on.whole;
      lane = omega (arith, lane, lanes);
      logged = sym on.logs.count ∙ c.requires.logged ∙ sym on.lanes;
      there = found ∙ ap (λ n. Some (c.args.lane, n))
          (on.whole.apart.number o c.args.lane there.0 found);
    }

pub bring_object_home-requires : goal.bring_object_home-requires
bring_object_home-requires g c =
    let on = c.in_ok-reading.ensures.continues in
    let known = c.requires.known in
    let objects = on.objects in
    record {
      whole = on.whole;
      logged = sym on.logs.count ∙ c.requires.logged ∙ sym on.lanes;
      known = omega (arith, known, objects);
    }

pub carry-requires : goal.carry-requires
carry-requires g c =
    let on = c.in_ok-reading.ensures.continues in
    let home = c.in_ok-bring_object_home.ensures in
    let known = c.requires.known in
    let lane = c.requires.lane in
    let objects = home.continues.objects ∙ on.objects in
    let lanes = home.continues.lanes ∙ on.lanes in
    record {
      can = c.requires.can;
      means = c.requires.means;
      whole = home.continues.whole;
      lane = omega (arith, lane, lanes);
      logged = sym home.continues.logs.count ∙ sym on.logs.count ∙ c.requires.logged ∙ sym lanes;
      known = omega (arith, known, objects);
      home = home.home;
    }

pub returns-then-is_there-clause-sends : goal.returns-then-is_there-clause-sends
returns-then-is_there-clause-sends g c =
    let m = g.C.LocalClass.local_meaning in
    let home_of = g.W.LaneWorker.home_of in
    let read = c.in_ok-reading.ensures in
    on_ok_weaker c.follow.result
    (λ sends. sends_after m home_of c.args.store.now c.share.new.store c.follow.new.store
    c.args.lane c.args.run c.args.op _ _ read.continues read.value sends)
    c.follow.ensures.sends

pub returns-clause-sends : goal.returns-clause-sends
returns-clause-sends g c =
    let m = g.C.LocalClass.local_meaning in
    let home_of = g.W.LaneWorker.home_of in
    let read = c.in_ok-reading.ensures in
    on_ok_weaker c.carry.result
    (λ sends. sends_after m home_of c.args.store.now c.bring_object_home.new.store
    c.carry.new.store c.args.lane c.args.run c.args.op _ _
    (continues_on m home_of c.args.store.now c.share.new.store c.bring_object_home.new.store
    read.continues c.in_ok-bring_object_home.ensures.continues) read.value sends)
    c.carry.ensures

pub returns-then-is_there-clause-reads : goal.returns-then-is_there-clause-reads
returns-then-is_there-clause-reads g c =
    let read = c.in_ok-reading.ensures in
    on_ok_weaker c.follow.result
    (λ sends. reads_home g.C.LocalClass.local_meaning g.W.LaneWorker.home_of c.args.store.now
    c.share.new.store c.follow.new.store c.args.lane c.args.run c.args.op _ c.args.reading
    read.continues sends c.requires.read_known read.home)
    c.follow.ensures.sends

pub returns-clause-reads : goal.returns-clause-reads
returns-clause-reads g c =
    let m = g.C.LocalClass.local_meaning in
    let home_of = g.W.LaneWorker.home_of in
    let read = c.in_ok-reading.ensures in
    let brought = c.in_ok-bring_object_home.ensures.continues in
    let shared = c.share.new.store.objects.items in
    let mid = c.bring_object_home.new.store in
    on_ok_weaker c.carry.result
    (λ sends. reads_home m home_of c.args.store.now mid c.carry.new.store c.args.lane c.args.run
    c.args.op _ c.args.reading
    (continues_on m home_of c.args.store.now c.share.new.store mid read.continues brought) sends
    c.requires.read_known
    (λ object is. still_home shared mid.objects.items object.0
    (found_at mid.objects.items object.0) brought.found (read.home object is) refl))
    c.carry.ensures

-- where the object is there already, it isn't brought home
is_seen : {C W O R : Type 0} (store mid : LaneStore C W O R) (lane own : ℕ) (object : Object C)
    (there : Bool) → mid ≡ store → slice_get mid.objects.items own ≡ Some object →
    ((number : ℕ) → lane_and_number object ≡ Some (lane, number) → there ≡ true) →
    found_at store.objects.items own ≡ Some (lane, own) → there ≡ true
is_seen store mid lane own object there same at seen found =
    seen own (sym (ap found_in at) ∙ ap (λ s. found_at s.objects.items own) same ∙ found)

pub returns-in_err-bring_object_home-clause-succeeds :
    goal.returns-in_err-bring_object_home-clause-succeeds
returns-in_err-bring_object_home-clause-succeeds g c = λ none found works.
    let mid = c.share.new.store in
    let known = c.requires.known in
    let more = c.in_ok-reading.ensures.continues.objects in
    let at = slice_get_read mid.objects.items (length mid.objects.items) c.args.run.object.0
    c.index.result.now refl (omega (arith, known, more)) c.index.ensures in
    absurd (both_ways c.is_there.result c.if-is_there.false
    (is_seen c.args.store.now mid c.args.lane c.args.run.object.0 c.index.result.now
    c.is_there.result (c.share.ensures.none none).1 at c.is_there.ensures.seen found))

pub returns-clause-succeeds : goal.returns-clause-succeeds
returns-clause-succeeds g c = λ none found works.
    let mid = c.share.new.store in
    let known = c.requires.known in
    let more = c.in_ok-reading.ensures.continues.objects in
    let at = slice_get_read mid.objects.items (length mid.objects.items) c.args.run.object.0
    c.index.result.now refl (omega (arith, known, more)) c.index.ensures in
    absurd (both_ways c.is_there.result c.if-is_there.false
    (is_seen c.args.store.now mid c.args.lane c.args.run.object.0 c.index.result.now
    c.is_there.result (c.share.ensures.none none).1 at c.is_there.ensures.seen found))

use Rattle.std.proofs.Common.{◌≡◌, Some, None, refl}
use Rattle.interleavings.specs.Machines.{front_at}
use Rattle.delegation.specs.PlainParts.{state_of}
use Rattle.schedule_core.specs.Queues.{queued}
use Rattle.schedule_core.proofs.StoreLemmas.{ran-front, ran-none, call-of}
use Rattle.schedule_core.proofs.store.run_front.Goals as goal

pub returns-in_default-clause-core : goal.returns-in_default-clause-core
returns-in_default-clause-core g c =
    let m = g.C.LocalClass.local_meaning in
    let store = c.args.store.now in
    let front : None ≡ front_at (queued store.lanes.items) c.args.lane.0 =
    let told = c.in_default.ensures.front in let is = c.in_default.is in cc in
    ran-none m (state_of store.values.items store.total) (state_of store.values.items store.total)
    store.lanes.items c.pop_from.new.lanes.items c.args.lane.0 c.pop_from.ensures.rest front refl

pub returns-in_default-clause-call : goal.returns-in_default-clause-call
returns-in_default-clause-call g c =
    let m = g.C.LocalClass.local_meaning in
    let store = c.args.store.now in
    let front : None ≡ front_at (queued store.lanes.items) c.args.lane.0 =
    let told = c.in_default.ensures.front in let is = c.in_default.is in cc in
    call-of m (state_of store.values.items store.total) (state_of store.values.items store.total)
    store.lanes.items c.pop_from.new.lanes.items c.args.lane.0 c.pop_from.ensures.rest None front

pub returns-clause-core : goal.returns-clause-core
returns-clause-core g c =
    let m = g.C.LocalClass.local_meaning in
    let store = c.args.store.now in
    let front : Some c.in-Some.waiting ≡ front_at (queued store.lanes.items) c.args.lane.0 =
    let told = c.in-Some.ensures.front in let is = c.in-Some.is in cc in
    ran-front m (state_of store.values.items store.total) _ store.lanes.items
    c.pop_from.new.lanes.items c.args.lane.0 c.pop_from.ensures.rest c.in-Some.waiting front
    c.in_ok-run_waiting.ensures.state

pub returns-clause-call : goal.returns-clause-call
returns-clause-call g c =
    let m = g.C.LocalClass.local_meaning in
    let store = c.args.store.now in
    let front : Some c.in-Some.waiting ≡ front_at (queued store.lanes.items) c.args.lane.0 =
    let told = c.in-Some.ensures.front in let is = c.in-Some.is in cc in
    call-of m (state_of store.values.items store.total) (state_of store.values.items store.total)
    store.lanes.items c.pop_from.new.lanes.items c.args.lane.0 c.pop_from.ensures.rest
    (Some c.in-Some.waiting) front

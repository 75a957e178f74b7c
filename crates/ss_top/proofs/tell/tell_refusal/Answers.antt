use Rattle.ss_top.specs.Texts.{refusal_text}
use Rattle.ss_top.proofs.tell.tell_refusal.Goals as goal

pub returns-in-NotIsolating : goal.returns-in-NotIsolating
unfolding refusal_text
returns-in-NotIsolating g c = rw c.in-NotIsolating.is c.tell_line.ensures

pub returns-in-Isolating : goal.returns-in-Isolating
unfolding refusal_text
returns-in-Isolating g c = rw c.in-Isolating.is c.tell_line-in-Isolating.ensures

pub returns-in-ReadOnly : goal.returns-in-ReadOnly
unfolding refusal_text
returns-in-ReadOnly g c =
    rw (c.in-ReadOnly.is, ← c.object_name.ensures) c.tell_object.ensures

pub returns-in-Shared : goal.returns-in-Shared
unfolding refusal_text
returns-in-Shared g c =
    rw (c.in-Shared.is, ← c.object_name-in-Shared.ensures) c.tell_object-in-Shared.ensures

pub returns-in-SelfRead : goal.returns-in-SelfRead
unfolding refusal_text
returns-in-SelfRead g c =
    rw (c.in-SelfRead.is, ← c.object_name-in-SelfRead.ensures) c.tell_object-in-SelfRead.ensures

pub returns-in-UnknownObject : goal.returns-in-UnknownObject
unfolding refusal_text
returns-in-UnknownObject g c = rw c.in-UnknownObject.is c.tell_line-in-UnknownObject.ensures

pub returns-in-TooManyObjects : goal.returns-in-TooManyObjects
unfolding refusal_text
returns-in-TooManyObjects g c = rw c.in-TooManyObjects.is c.tell_line-in-TooManyObjects.ensures

pub returns-in-TooManyCalls : goal.returns-in-TooManyCalls
unfolding refusal_text
returns-in-TooManyCalls g c = rw c.in-TooManyCalls.is c.tell_line-in-TooManyCalls.ensures

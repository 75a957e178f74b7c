use Rattle.std.proofs.Common.{sym, ◌∙◌, refl}
use Rattle.ss_base.proofs.FilesLemmas.{bytes_of-place, bytes_of-absent}
use Rattle.ss_base.proofs.mem_shelf.MemShelfShelf.open_name.Goals as goal

pub returns-clause-left : goal.returns-clause-left
returns-clause-left c =
    rw (← c.deref.ensures.value)
    (bytes_of-place c.deref.result.now c.args.name.now c.in-Some.place (sym c.place_of.ensures ∙ c.in-Some.is))

pub returns-clause-fails : goal.returns-clause-fails
returns-clause-fails c =
    let held =
    bytes_of-place c.deref.result.now c.args.name.now c.in-Some.place (sym c.place_of.ensures ∙ c.in-Some.is) in
    let unlisted = sym c.next_fails.ensures.value ∙ c.if-next_fails.false in
    rw (unlisted, ← c.deref.ensures.value, held.1) refl

pub returns-in_default-clause-steady : goal.returns-in_default-clause-steady
returns-in_default-clause-steady c =
    let absent =
    rw c.deref.ensures.value at
    (bytes_of-absent c.deref.result.now c.args.name.now (sym c.place_of.ensures ∙ c.in_default.is)) in
    λ steady. (rw c.next_fails.ensures.next.list steady.1, λ held. absurd (let none = rw absent at held in cc))

pub returns-in_default-clause-fails : goal.returns-in_default-clause-fails
returns-in_default-clause-fails c =
    let absent =
    bytes_of-absent c.deref.result.now c.args.name.now (sym c.place_of.ensures ∙ c.in_default.is) in
    let unlisted = sym c.next_fails.ensures.value ∙ c.if-next_fails.false in
    rw (unlisted, ← c.deref.ensures.value, absent) refl

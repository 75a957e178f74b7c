use Rattle.std.proofs.Common.{◌≡◌, ◌≢◌, Some}
use Rattle.std.specs.List.{AllWithin, slice_get}
use Rattle.text_table.proofs.table.find_among.Given as goal

-- no slot that was passed has the tag and the text
abbrev pub invariant-loop-slot : goal.invariant-loop-slot
invariant-loop-slot l =
    AllWithin (λ slot. slot.tag ≡ l.tag → slice_get l.texts slot.number ≢ Some l.text)
    l.slots 0 l.slot-index

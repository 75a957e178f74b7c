-- Which object, set or call has this number?
use Rattle.std.specs.Prelude.{ℕ}
use Rattle.ss_base.specs.declared.ids.ObjectId.{ObjectId}
use Rattle.ss_base.specs.declared.ids.SetId.{SetId}
use Rattle.ss_base.specs.declared.ids.CallNo.{CallNo}

-- the object of a number
abbrev pub object_id : ℕ → ObjectId
object_id number = record { 0 = number }

-- the set of a number
abbrev pub set_id : ℕ → SetId
set_id number = record { 0 = number }

-- the call of a number
abbrev pub call_no : ℕ → CallNo
call_no number = record { 0 = number }

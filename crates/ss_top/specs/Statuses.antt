-- With which number does the program end, on which statuses may `out` have gained something, and on
-- which were all inputs read?
use Rattle.std.specs.Prelude.{ℕ, Bool, true, false}
use Rattle.ss_top.specs.declared.status.Status.{Status}
use Rattle.ss_top.specs.declared.status.Status.TheVariants.{Done, Usage, ReadFault, WriteFault}
use Rattle.ss_top.specs.declared.status.Status.TheVariants.{OutOfMemory, Limit, Refused, Text}

-- the number with which the program ends
abbrev pub code_of : Status → ℕ
code_of Done = 0
code_of Usage = 2
code_of (ReadFault which) = 3
code_of WriteFault = 4
code_of OutOfMemory = 5
code_of (Limit hit) = 6
code_of (Refused line refusal) = 7
code_of (Text fault) = 8

-- a text was written, whole or in part
abbrev pub has_written : Status → Bool
has_written Done = true
has_written WriteFault = true
has_written (Refused line refusal) = true
has_written _ = false

-- every input was read: a text was written, whole or in part, or the text of an input is wrong
abbrev pub has_read_all : Status → Bool
has_read_all (Text fault) = true
has_read_all status = has_written status

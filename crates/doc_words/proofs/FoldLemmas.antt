-- Folding an ASCII word is lowering its letters.
use Rattle.std.proofs.Common.{◌≡◌, ℕ, List, map, chars, IsAscii, arith}
use Rattle.std.proofs.lemmas.Str.{chars-IsAscii, encodes-IsAscii}
use Rattle.std.proofs.lemmas.Str.Ascii.{IsAscii-map}
use Rattle.std.specs.Char.{to_ascii_lowercase}
use Rattle.caseless.proofs.CaselessLemmas.{default_case_fold-ascii, All-chars}
use Rattle.index_definitions.specs.Words.{term_of}

pub term_of_ascii : (word : List ℕ) → IsAscii word → term_of word ≡ map to_ascii_lowercase word
term_of_ascii word ascii =
    rw (default_case_fold-ascii (chars word) (All-chars word ascii), chars-IsAscii word ascii)
    (encodes-IsAscii _ (IsAscii-map to_ascii_lowercase word (λ b low. grind arith) ascii))

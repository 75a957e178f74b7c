-- Which words does the language know?
use Rattle.std.specs.Prelude.{ℕ, Bool, List, codes, if◌then◌else◌, Some, None}
use Rattle.std.specs.declared.option.Option.{Option}
use Rattle.std.specs.Str.{bytes_eq}
use Rattle.execution_definitions.specs.declared.serializer.By.{By}
use Rattle.execution_definitions.specs.declared.serializer.By.TheVariants as by
use Rattle.script_lang.specs.declared.keyword.Keyword.{Keyword}
use Rattle.script_lang.specs.declared.keyword.Keyword.TheVariants as keyword

-- the word that a command begins with
unfoldable pub keyword_of : List ℕ → Option Keyword
keyword_of word =
    if bytes_eq word (codes "object") then Some keyword.Object
    else (if bytes_eq word (codes "fixed") then Some keyword.Fixed
    else (if bytes_eq word (codes "isolate") then Some keyword.Isolate
    else (if bytes_eq word (codes "join") then Some keyword.Join
    else (if bytes_eq word (codes "do") then Some keyword.Do
    else (if bytes_eq word (codes "mix") then Some keyword.Mix
    else (if bytes_eq word (codes "write") then Some keyword.Write
    else (if bytes_eq word (codes "show") then Some keyword.Show
    else (if bytes_eq word (codes "total") then Some keyword.Total
    else None))))))))

-- the serializer that a word names
unfoldable pub serializer_named : List ℕ → Option By
serializer_named word =
    if bytes_eq word (codes "object") then Some by.Object
    else (if bytes_eq word (codes "sequence") then Some by.Sequence
    else (if bytes_eq word (codes "own") then Some by.Own
    else None))

-- the word stands before a SET
unfoldable pub is_in : List ℕ → Bool
is_in word = bytes_eq word (codes "in")

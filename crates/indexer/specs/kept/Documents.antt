-- What does a contract see of what a document keeps?
use Rattle.std.specs.Prelude.{◌≤◌, length}
use Rattle.ss_base.specs.declared.limits.TheConstants as limits
use Rattle.indexer.specs.Documents.{Content, whole, split}
use Rattle.indexer.specs.declared.document.Kept.{Kept}
use Rattle.indexer.specs.declared.document.Kept.TheVariants.{Bytes, Words}

-- bytes or words
abbrev pub content_of : Kept → Content
content_of (Bytes kept) = whole kept.items
content_of (Words kept) = split kept.words

-- bytes are at most 8 MiB
abbrev pub IsKept : Kept → Type 0
IsKept (Bytes kept) = length kept.items ≤ limits.DOCUMENT_BYTES
IsKept (Words kept) = Unit {0}

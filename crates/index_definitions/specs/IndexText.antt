-- How is an index printed, in full and in brief?
--
-- In full, four lines of counts, and then a line for each term. In brief, its counts, and one number
-- over all places at which terms stand. Numbers are decimal, and each line ends with a line feed.
-- `count_line` is `unfoldable`: as an `abbrev` its texts would be spelt out in goals.
use Rattle.std.specs.Prelude.{ℕ, ◌/◌, ◌%◌, ◌^◌, ◌==◌, ◌||◌, nat_le, Bool, if◌then◌else◌, List, [], ◌∷◌, ◌++◌, map}
use Rattle.std.specs.Prelude.{length, codes, decimal, slice_index}
use Rattle.std.specs.List.{flat_map, join_with_byte, sum_by}
use Rattle.index_definitions.specs.PostingLists.{DocumentPositions, PostingList, pairs_of}
use Rattle.index_definitions.specs.Index.{TermRecord, IndexRecord, index}

-- two hexadecimal digits in lower case
abbrev pub hex_byte : ℕ → List ℕ
hex_byte b =
    slice_index (codes "0123456789abcdef") (b / 16)
    ∷ slice_index (codes "0123456789abcdef") (b % 16) ∷ []

-- the bytes 00 to 20, 7F and the backslash
abbrev pub is_escaped : ℕ → Bool
is_escaped b = nat_le b 0x20 || (b == 0x7F) || (b == 0x5C)

-- a byte of a term
abbrev pub escaped_byte : ℕ → List ℕ
escaped_byte b = if is_escaped b then codes "\\x" ++ hex_byte b else b ∷ []

-- a term
abbrev pub escaped : List ℕ → List ℕ
escaped term = flat_map escaped_byte term

-- DOCUMENT:POSITION,POSITION
abbrev pub document_text : DocumentPositions → List ℕ
document_text e = decimal e.0 ++ codes ":" ++ join_with_byte 0x2C (map decimal e.1)

-- DOCUMENT:POSITION,POSITION;DOCUMENT:POSITION
abbrev pub postings_text : PostingList → List ℕ
postings_text es = join_with_byte 0x3B (map document_text es)

-- TERM TOTAL DOCUMENT:POSITION,POSITION;DOCUMENT:POSITION
abbrev pub term_line : TermRecord → List ℕ
term_line t =
    escaped t.text ++ codes " " ++ decimal t.total ++ codes " " ++ postings_text t.postings
    ++ codes "\n"

-- WORD NUMBER
unfoldable pub count_line : List ℕ → ℕ → List ℕ
count_line word n = word ++ codes " " ++ decimal n ++ codes "\n"

-- the text of an index
abbrev pub text_of_index : IndexRecord → List ℕ
text_of_index i =
    count_line (codes "documents") i.documents ++ count_line (codes "words") i.words
    ++ count_line (codes "longest") i.longest ++ count_line (codes "terms") (length i.terms)
    ++ flat_map term_line i.terms

-- the text of the index of documents under a stop list
abbrev pub index_text : List (List ℕ) → List ℕ → List ℕ
index_text documents stop = text_of_index (index documents stop)

-- the sum of the positions of a term in all documents
abbrev pub sum_of_positions : TermRecord → ℕ
sum_of_positions t = sum_by (λ pair. pair.1) (pairs_of t.postings)

-- the sum of the positions of all terms in all documents, modulo 2^32
abbrev pub position_sum : IndexRecord → ℕ
position_sum i = sum_by sum_of_positions i.terms % (2 ^ 32)

-- the summary of an index
abbrev pub summary_of_index : IndexRecord → List ℕ
summary_of_index i =
    count_line (codes "documents") i.documents ++ count_line (codes "words") i.words
    ++ count_line (codes "terms") (length i.terms)
    ++ count_line (codes "positions") (position_sum i)

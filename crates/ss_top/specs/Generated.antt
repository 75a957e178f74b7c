-- Which documents are generated, and which limit do they meet first?
--
-- A generator goes from state to state, a word at a time. Its state goes on from one document to
-- the next.
use Rattle.std.specs.Prelude.{ℕ, ◌+◌, ◌*◌, ◌/◌, ◌%◌, ◌^◌, zero, suc, nat_lt, List, ◌++◌}
use Rattle.std.specs.Prelude.{if◌then◌else◌, map, codes, decimal, Some}
use Rattle.std.specs.declared.option.Option.{Option}
use Rattle.std.specs.List.{flat_map, range_with_len}
use Rattle.ss_top.specs.declared.status.LimitHit.{LimitHit}
use Rattle.ss_top.specs.declared.status.LimitHit.TheVariants.{Names}
use Rattle.ss_base.specs.declared.limits.TheConstants as limits
use Rattle.ss_top.specs.Limits.{first_limit}

-- the state behind this one
abbrev pub state_after : ℕ → ℕ
state_after x = (1103515245 * x + 12345) % (2 ^ 31)

-- the state n words behind this one
abbrev pub state_at : ℕ → ℕ → ℕ
state_at x zero = x
state_at x (suc n) = state_after (state_at x n)

-- the word of a state, with the space behind it
abbrev pub generated_word : ℕ → List ℕ
generated_word x = codes "w" ++ decimal ((x / 256) % 1000) ++ codes " "

-- the next document of so many words, behind this state
abbrev pub generated_document : ℕ → ℕ → List ℕ
generated_document words x = flat_map generated_word (map (state_at x) (range_with_len 1 words))

-- so many documents of so many words
abbrev pub generated_documents : ℕ → ℕ → ℕ → List (List ℕ)
generated_documents docs words seed =
    map (λ i. generated_document words (state_at seed (i * words))) (range_with_len 0 docs)

-- the limit that they meet first, where they meet any
abbrev pub generated_limit : ℕ → ℕ → ℕ → Option LimitHit
generated_limit docs words seed =
    if nat_lt limits.NAMES docs
    then Some (Names docs)
    else first_limit (generated_documents docs words seed)

-- How often does each base stand in a text?
--
-- The definition goes over the bytes, and knows nothing of blocks. Counts are modulo 2^64.
use Rattle.std.specs.Prelude.{ℕ, ◌==◌, ◌%◌, ◌^◌, List, Some, count_by}
use Rattle.std.specs.declared.option.Option.{Option}
use Rattle.class_laws.specs.declared.both.Both.{Both}
use Rattle.class_laws.specs.declared.numbers.WrapSum.{WrapSum}
use Rattle.class_laws.specs.Numbers.{wrap_sum, wrap_sum_unit, wrap_sum_join}
use Rattle.class_laws.specs.Pairs.{both_of, both_join}
use Rattle.execution_definitions.specs.Meanings.{Meaning}
use Rattle.examples.specs.declared.bases.Spelling.{Spelling}
use Rattle.examples.specs.declared.bases.Count.{Count}
use Rattle.examples.specs.declared.bases.Part.{Part}
use Rattle.examples.specs.declared.bases.Part.TheVariants as part

-- four counts
abbrev pub Tally : Type 0
Tally = Both (Both WrapSum WrapSum) (Both WrapSum WrapSum)

-- the counts of A, C, G and T
abbrev pub tally : ℕ → ℕ → ℕ → ℕ → Tally
tally a c g t =
    both_of (both_of (wrap_sum (a % 2 ^ 64)) (wrap_sum (c % 2 ^ 64)))
    (both_of (wrap_sum (g % 2 ^ 64)) (wrap_sum (t % 2 ^ 64)))

-- how often a byte stands in a text
abbrev pub count_of : ℕ → List ℕ → ℕ
count_of byte text = count_by (λ b. b == byte) text

-- how often each base does
abbrev pub tally_in : Spelling → List ℕ → Tally
tally_in spelling text =
    tally (count_of spelling.a text) (count_of spelling.c text) (count_of spelling.g text)
    (count_of spelling.t text)

-- nothing counted
abbrev pub no_tally : Tally
no_tally = both_of (both_of wrap_sum_unit wrap_sum_unit) (both_of wrap_sum_unit wrap_sum_unit)

-- the sums of four counts each
abbrev pub tally_join : Tally → Tally → Tally
tally_join = both_join (both_join wrap_sum_join wrap_sum_join) (both_join wrap_sum_join wrap_sum_join)

-- what counting a part contributes, where a part is read
abbrev pub tally_after : Part → Option Part → Tally
tally_after (part.Block bytes) (Some (part.Spelling spelling)) = tally_in spelling bytes
tally_after part read = no_tally

-- the meaning of the parts: counting changes none
abbrev pub part_meaning : Meaning Part Count Tally
part_meaning = record {
  step = λ part op read. (part, tally_after part read);
  own = λ op. 0;
  unit = no_tally;
  join = tally_join;
}

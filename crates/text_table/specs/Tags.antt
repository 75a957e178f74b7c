-- What is the tag of a text? The upper half of what std's fast hasher makes of its bytes.
use Rattle.std.specs.Prelude.{ℕ, List, ◌/◌, ◌^◌}
use Rattle.std.specs.Hash.FoldHasher as folding

-- texts with equal tags may differ
unfoldable pub tag_of : List ℕ → ℕ
tag_of text = folding.finish (folding.write folding.initial text) / 2 ^ 32

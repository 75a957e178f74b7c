use Rattle.std.proofs.Common.{◌≡◌, ◌∙◌, ℕ, refl, sym, ap}
use Rattle.std.proofs.lemmas.Result.{on_ok_weaker}
use Rattle.shard.specs.Shards.{ShardParts}
use Rattle.indexer.specs.Documents.{Content, whole, split, IsWhole}
use Rattle.indexer.specs.Items.{gathered_content}
use Rattle.indexer.proofs.item.gather.Goals as goal

-- a document that isn't split changes no shard
not_gathered : (shard : ShardParts) (document : ℕ) (content : Content)
    → IsWhole content → shard ≡ gathered_content shard document content
not_gathered shard document (whole bytes) is = refl
not_gathered shard document (split words) is = absurd is

pub returns-in_default : goal.returns-in_default
returns-in_default c =
    not_gathered c.args.shard.now c.args.doc c.args.document.now c.in_default.ensures

pub returns : goal.returns
returns c =
    on_ok_weaker c.gather.result
    (λ new. new ∙ ap (gathered_content c.args.shard.now c.args.doc) (sym c.in-Some.ensures))
    c.gather.ensures

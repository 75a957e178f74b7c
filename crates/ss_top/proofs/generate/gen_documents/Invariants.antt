use Rattle.std.proofs.Common.{◌≡◌, ◌+◌, ◌*◌, ◌^◌, ◌<◌, map, length, None}
use Rattle.std.specs.Prelude.{sum_by}
use Rattle.ss_base.specs.declared.limits.TheConstants as limits
use Rattle.ss_top.specs.Generated.{state_at, generated_documents}
use Rattle.ss_top.specs.Limits.{first_limit}
use Rattle.ss_top.proofs.generate.gen_documents.Given as goal

-- the documents so far, which meet no limit, and what is left for the others
abbrev pub invariant-loop-before : goal.invariant-loop-before
invariant-loop-before l =
    record {
      documents :
          map (λ document. document.items) l.documents.items
          ≡ generated_documents l.before l.words l.seed;
      state : l.state ≡ state_at l.seed (l.before * l.words);
      bound : l.state < 2 ^ 31;
      left :
          l.left + sum_by length (generated_documents l.before l.words l.seed)
          ≡ limits.ALL_DOCUMENT_BYTES;
      within : first_limit (generated_documents l.before l.words l.seed) ≡ None;
    }

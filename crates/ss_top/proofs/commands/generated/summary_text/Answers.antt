use Rattle.std.proofs.Common.{[], sym, ap, ◌∙◌, subst, arith, length}
use Rattle.std.proofs.lemmas.List.{length-map}
use Rattle.index_definitions.specs.Index.{index}
use Rattle.index_definitions.specs.Words.{terms_in}
use Rattle.index_definitions.specs.Terms.{HaveSameTerms, has_term}
use Rattle.index_definitions.specs.IndexText.{summary_of_index}
use Rattle.index_definitions.proofs.WordsLemmas.{terms_in-none}
use Rattle.ss_top.proofs.GeneratedLemmas.{generated_limit-none, length-generated_documents}
use Rattle.ss_top.proofs.commands.generated.summary_text.Goals as goal

pub index_documents-requires-clause-few : goal.index_documents-requires-clause-few
index_documents-requires-clause-few g c κs within =
    let few =
    generated_limit-none c.args.words c.args.seed c.args.docs c.in_ok-documents.ensures.within in
    omega (
      arith,
      few.0,
      ap length c.in_ok-documents.ensures.documents,
      length-generated_documents c.args.words c.args.seed c.args.docs,
      length-map c.in_ok-documents.documents.items (λ document. document.items),
    )

-- an empty stop list has no terms
none_stopped : HaveSameTerms [] (terms_in [])
none_stopped = λ term. sym (ap (λ terms. has_term terms term) terms_in-none)

pub returns-clause-text : goal.returns-clause-text
returns-clause-text g c =
    let stops = subst (λ set. HaveSameTerms set (terms_in [])) (sym c.empty.ensures) none_stopped in
    let made = c.in_ok-index.ensures [] stops
    ∙ ap (λ documents. index documents []) c.in_ok-documents.ensures.documents in
    c.in_ok-print_summary.ensures ∙ ap summary_of_index made

use Rattle.std.proofs.Common.{◌∙◌, map}
use Rattle.std.proofs.lemmas.Result.{IfOk-weaker}
use Rattle.index_definitions.specs.Words.{terms_in}
use Rattle.index_definitions.proofs.PostingsLemmas.{index_without-same}
use Rattle.ss_top.proofs.LimitsLemmas.{AllByRecursion-within}
use Rattle.ss_top.proofs.commands.indexing.index_on.Goals as goal

pub build-given-requires-clause-within : goal.build-given-requires-clause-within
build-given-requires-clause-within g c κs within =
    AllByRecursion-within 0 1 c.args.documents.items c.requires.within

pub returns : goal.returns
returns g c =
    let documents = map (λ document. document.items) c.args.documents.items in
    IfOk-weaker c.build-given.result _ _
    (λ made is list same. is ∙ index_without-same documents c.args.stop (terms_in list) same)
    c.build-given.ensures.index

use Rattle.std.proofs.Common.{◌≡◌, ◌+◌, ◌<◌, ◌⊎◌, ◌∷◌, ◌∙◌, arith, ap, inl, inr, subst, sym, get_or}
use Rattle.std.proofs.Common.{Fits, w8}
use Rattle.postings.specs.Stuck.{AreStuck, IsNumberUpTo}
use Rattle.postings.proofs.StuckLemmas.{number_stuck-here, number_stuck-more}
use Rattle.postings.proofs.decoding.+read_number.Goals as goal
use Rattle.postings.proofs.decoding.+read_number.Goals.{then-group-eq0-via-then-group-eq0}
use Rattle.postings.proofs.decoding.+read_number.Goals.{then-group-eq0-via-else-group-eq0+then-limit-group}

pub returns-then-group-eq0-clause-stuck : goal.returns-then-group-eq0-clause-stuck
returns-then-group-eq0-clause-stuck t c =
    let group = c.from-group.result in
    let rest = c.in-Some.rest.now in
    let is : c.args.bytes.now ≡ group ∷ rest =
    c.in-Some.ensures.cases.0 ∙ ap (λ b. b ∷ rest) (sym c.from-group.ensures) in
    let bad : (group ≡ 0) ⊎ (c.args.limit < group) =
    elim c.then-group-eq0.branch [
      | then-group-eq0-via-then-group-eq0 w ↦ inl w.if-group-eq0.true
      | then-group-eq0-via-else-group-eq0+then-limit-group w ↦ inr w.if-limit-group.true
    ] in
    subst (λ bs. AreStuck (IsNumberUpTo c.args.limit) bs 0) (sym is)
    (number_stuck-here c.args.limit group rest bad)

pub returns-in-Err-clause-stuck : goal.returns-in-Err-clause-stuck
returns-in-Err-clause-stuck t c =
    let group = c.from-group.result in
    let rest = c.in-Some.rest.now in
    let is : c.args.bytes.now ≡ group ∷ rest =
    c.in-Some.ensures.cases.0 ∙ ap (λ b. b ∷ rest) (sym c.from-group.ensures) in
    let fits : Fits w8 group = subst (λ bs. Fits w8 (get_or bs 0 0)) is (c.type_inv.bytes 0) in
    subst (λ bs. AreStuck (IsNumberUpTo c.args.limit) bs (c.in-Err.at + 1)) (sym is)
    (number_stuck-more c.args.limit group rest c.in-Err.at (omega (arith, c.if-group-lt128.false))
    (omega (arith, fits)) (omega (arith, c.if-limit-group.false)) c.in-Err.ensures.stuck)

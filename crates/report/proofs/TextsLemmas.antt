-- What a text held stays at its front.
use Rattle.std.proofs.Common.{◌≡◌, ℕ, List, ◌++◌, take, length, arith, sym, ap, ◌∙◌, length-append}
use Rattle.std.proofs.Math.Seq.{take-append_seam}
use Rattle.std.proofs.lemmas.List.{take-take}

-- over one more step
pub take-kept :
    (old more before after : List ℕ)
    → before ≡ old ++ more → take (length before) after ≡ before → take (length old) after ≡ old
take-kept old more before after is kept =
    sym (take-take (length old) (length before) after
    (omega (arith, ap length is, length-append old more)))
    ∙ ap (take (length old)) (kept ∙ is) ∙ take-append_seam old more

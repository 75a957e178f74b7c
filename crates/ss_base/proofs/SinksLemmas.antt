-- What a sink gains over several writes.
use Rattle.std.proofs.Common.{◌≡◌, ℕ, ◌+◌, ◌≤◌, List, ◌++◌, take, drop, length, Some, None, ap}
use Rattle.std.proofs.Common.{◌∙◌, append_assoc, arith, length-append}
use Rattle.std.proofs.lemmas.List.{take-append-le}
use Rattle.std.proofs.Math.Seq.{take-add, take-append-add}
use Rattle.std.specs.declared.option.Option.{Option}
use Rattle.std.specs.Io.KnownBytes.{Appends}
use Rattle.ss_base.specs.Sinks.{GainsFront}

-- first some bytes, and then more
pub Appends-append :
    (a b c : Option (List ℕ)) (xs ys : List ℕ)
    → Appends a b xs → Appends b c ys → Appends a c (xs ++ ys)
Appends-append None b c xs ys first more = tt
Appends-append (Some vs) None c xs ys first more = absurd first
Appends-append (Some vs) (Some ws) None xs ys first more = absurd more
Appends-append (Some vs) (Some ws) (Some zs) xs ys first more =
    more ∙ ap (λ us. us ++ ys) first ∙ append_assoc vs xs ys

-- first the bytes that were done, and then n of those after them
pub Appends-take-add :
    (a b c : Option (List ℕ)) (done n : ℕ) (bytes : List ℕ)
    → Appends a b (take done bytes) → Appends b c (take n (drop done bytes))
    → Appends a c (take (done + n) bytes)
Appends-take-add a b c done n bytes first more =
    rw (take-add done n bytes)
    (Appends-append a b c (take done bytes) (take n (drop done bytes)) first more)

-- some bytes, and then a front part of others
pub GainsFront-append :
    (a b c : Option (List ℕ)) (xs ys rest : List ℕ)
    → Appends a b xs → GainsFront b c ys → GainsFront a c (xs ++ (ys ++ rest))
GainsFront-append a b c xs ys rest first more =
    let n = more.0 in
    let short : length xs + n ≤ length (xs ++ (ys ++ rest)) =
    omega (arith, more.1, length-append xs (ys ++ rest), length-append ys rest) in
    let front : take (length xs + n) (xs ++ (ys ++ rest)) ≡ xs ++ take n ys =
    take-append-add xs (ys ++ rest) n ∙ ap (λ vs. xs ++ vs) (take-append-le n ys rest more.1) in
    (length xs + n, short, rw front (Appends-append a b c xs (take n ys) first more.2))

-- A name's place among the files of a shelf in memory, and what is left of a file.
use Rattle.std.proofs.Common.{◌≡◌, ℕ, ◌<◌, ◌≤◌, Bool, true, false, cond, List, [], ◌∷◌, drop}
use Rattle.std.proofs.Common.{length, get_or, Some, None, inl, inr, refl, ap, sym, ◌∙◌, arith}
use Rattle.std.proofs.lemmas.List.{drop_all}
use Rattle.std.proofs.lemmas.List.Folds.{find_at}
use Rattle.std.proofs.lemmas.List.Quantifiers.{position-Some}
use Rattle.std.proofs.lemmas.Option.{slice_get-get_or, slice_get_cases, slice_get_read}
use Rattle.std.proofs.lemmas.Bool.Decides.{nat_tests}
use Rattle.std.specs.Global.{Vec}
use Rattle.std.specs.List.{position_or_len}
use Rattle.std.specs.Option.{option_map}
use Rattle.std.specs.Prelude.{find, position, slice_get, nat_lt}
use Rattle.std.specs.Str.{bytes_eq}
use Rattle.ss_base.specs.Files.{bytes_of, rest_at}

cond-Some : (b : Bool) (k i : ℕ) → cond b (Some k) None ≡ Some i → k ≡ i
cond-Some true k i is = cc
cond-Some false k i is = cc

-- what is found stands at its place
find-position :
    {X : Type 0} (p : X → Bool) (xs : List X) (i : ℕ)
    → position p xs ≡ Some i → (x : X) × (find p xs ≡ Some x) × (slice_get xs i ≡ Some x)
find-position p [] i is = cc
find-position p (x ∷ xs) i is =
    let within = (position-Some p (x ∷ xs) i x is).0 in
    let at_place = slice_get-get_or (x ∷ xs) i x within in
    let same =
    cond-Some (nat_lt (position_or_len p (x ∷ xs)) (length (x ∷ xs)))
    (position_or_len p (x ∷ xs)) i is in
    (get_or (x ∷ xs) i x, find_at p (x ∷ xs) ∙ ap (slice_get (x ∷ xs)) same ∙ at_place, at_place)

-- the file at a name's place has the name's bytes
pub bytes_of-place :
    (files : List (List ℕ × Vec ℕ)) (name : List ℕ) (i : ℕ)
    → position (λ f. bytes_eq f.0 name) files ≡ Some i
    → (bytes : List ℕ) × (bytes_of files name ≡ Some bytes) × (rest_at files i 0 ≡ Some bytes)
bytes_of-place files name i is =
    let found = find-position (λ f. bytes_eq f.0 name) files i is in (
      found.0.1.items,
      ap (option_map (λ f. f.1.items)) found.1,
      ap (option_map (λ f. drop 0 f.1.items)) found.2,
    )

-- what no element passes isn't found
find-None : {X : Type 0} (p : X → Bool) (xs : List X) → position p xs ≡ None → find p xs ≡ None
find-None p xs is =
    elim ((slice_get_cases xs (position_or_len p xs)).1) [
      | inl at_place ↦ grind (arith, nat_tests, at_place.1)
      | inr past ↦ find_at p xs ∙ past.1
    ]

-- a name that has no place isn't there
pub bytes_of-absent :
    (files : List (List ℕ × Vec ℕ)) (name : List ℕ)
    → position (λ f. bytes_eq f.0 name) files ≡ None → bytes_of files name ≡ None
bytes_of-absent files name is =
    ap (option_map (λ f. f.1.items)) (find-None (λ f. bytes_eq f.0 name) files is)

-- nothing is left past a file's end
pub rest_at-past :
    (files : List (List ℕ × Vec ℕ)) (place taken : ℕ) (f : List ℕ × Vec ℕ)
    → place < length files → f ≡ get_or files place f → length f.1.items ≤ taken
    → Some [] ≡ rest_at files place taken
rest_at-past files place taken f within is past =
    let at_place = slice_get_read files (length files) place f refl within is in
    sym (ap (option_map (λ g. drop taken g.1.items)) at_place
    ∙ ap Some (drop_all taken f.1.items past))

-- A text in parts, of which the first ones are written.
use Rattle.std.proofs.Common.{◌≡◌, ℕ, ◌+◌, ◌<◌, List, [], ◌∷◌, ◌++◌, length, get_or, take, drop}
use Rattle.std.proofs.Common.{sym, ap, ◌∙◌, append_assoc, append-nil}
use Rattle.std.specs.List.{flat_map}
use Rattle.std.proofs.lemmas.List.{take_more, take-append-drop}
use Rattle.std.proofs.Common.{refl}
use Rattle.std.specs.Prelude.{Result, Ok, Err, IsErr}
use Rattle.std.specs.declared.option.Option.{Option}
use Rattle.std.specs.Io.KnownBytes.{Appends}
use Rattle.ss_base.specs.Sinks.{GainsFront, GainsAll}
use Rattle.ss_base.proofs.SinksLemmas.{GainsFront-append}

pub flat_map-append :
    {X : Type 0} (f : X → List ℕ) (xs ys : List X)
    → flat_map f (xs ++ ys) ≡ flat_map f xs ++ flat_map f ys
flat_map-append f [] ys = refl
flat_map-append f (x ∷ xs) ys =
    ap (λ t. f x ++ t) (flat_map-append f xs ys)
    ∙ sym (append_assoc (f x) (flat_map f xs) (flat_map f ys))

module _ {X : Type 0} (f : X → List ℕ) (parts : List X) (i : ℕ) (d : X)
    (within : i < length parts) where
  -- one part more
  pub flat_map-take_more :
      flat_map f (take (i + 1) parts) ≡ flat_map f (take i parts) ++ f (get_or parts i d)
  flat_map-take_more =
      ap (flat_map f) (take_more parts i d within)
      ∙ flat_map-append f (take i parts) (get_or parts i d ∷ [])
      ∙ ap (λ t. flat_map f (take i parts) ++ t) (append-nil (f (get_or parts i d)))

  -- the parts before one, that one, and those behind it
  pub flat_map-split :
      flat_map f parts
      ≡ flat_map f (take i parts) ++ (f (get_or parts i d) ++ flat_map f (drop (i + 1) parts))
  flat_map-split =
      ap (flat_map f) (sym (take-append-drop (i + 1) parts))
      ∙ flat_map-append f (take (i + 1) parts) (drop (i + 1) parts)
      ∙ ap (λ t. t ++ flat_map f (drop (i + 1) parts)) flat_map-take_more
      ∙ append_assoc (flat_map f (take i parts)) (f (get_or parts i d))
      (flat_map f (drop (i + 1) parts))

-- the parts before one, and a front part of that one, are a front part of all
pub GainsFront-parts :
    {X : Type 0} (f : X → List ℕ) (parts : List X) (i : ℕ) (d : X) (a b c : Option (List ℕ))
    → i < length parts → Appends a b (flat_map f (take i parts))
    → GainsFront b c (f (get_or parts i d)) → GainsFront a c (flat_map f parts)
GainsFront-parts f parts i d a b c within first more =
    rw (flat_map-split f parts i d within)
    (GainsFront-append a b c (flat_map f (take i parts)) (f (get_or parts i d))
    (flat_map f (drop (i + 1) parts)) first more)

-- what is gained of a text that isn't written whole
pub GainsAll-err :
    {T E : Type 0} (before after : Option (List ℕ)) (result : Result T E) (text : List ℕ)
    → IsErr result → GainsFront before after text → GainsAll before after result text
GainsAll-err before after (Ok x) text is_err front = cc
GainsAll-err before after (Err e) text is_err front = front

-- a text of three parts, and one of five
pub three_parts : (a b c m : List ℕ) → b ≡ m → a ++ (b ++ (c ++ [])) ≡ a ++ m ++ c
three_parts a b c m middle = rw (middle, append-nil) (sym (append_assoc a m c))

pub five_parts :
    (a b c d e m n : List ℕ) → b ≡ m → d ≡ n
    → a ++ (b ++ (c ++ (d ++ (e ++ [])))) ≡ a ++ m ++ c ++ n ++ e
five_parts a b c d e m n second fourth =
    rw (second, fourth, append-nil)
    (sym (append_assoc (a ++ m ++ c) n e ∙ append_assoc (a ++ m) c (n ++ e)
    ∙ append_assoc a m (c ++ (n ++ e))))

-- the texts of a line that speak of an object: with no number, with one, and with two
pub object_parts :
    (a b c o n w e m p : List ℕ) → b ≡ m → n ≡ p
    → a ++ (b ++ (c ++ (o ++ (n ++ (w ++ (e ++ [])))))) ≡ a ++ m ++ c ++ (o ++ p ++ w) ++ e
object_parts a b c o n w e m p number name =
    rw (number, name) (simp (append_assoc, append-nil))

pub private_parts :
    (a b c o n w s e m p q : List ℕ) → b ≡ m → n ≡ p → s ≡ q
    → a ++ (b ++ (c ++ (o ++ (n ++ (w ++ (s ++ (e ++ [])))))))
    ≡ a ++ m ++ c ++ (o ++ p ++ w ++ q) ++ e
private_parts a b c o n w s e m p q number name set =
    rw (number, name, set) (simp (append_assoc, append-nil))

pub two_sets_parts :
    (a b c o n w s v t e m p q r : List ℕ) → b ≡ m → n ≡ p → s ≡ q → t ≡ r
    → a ++ (b ++ (c ++ (o ++ (n ++ (w ++ (s ++ (v ++ (t ++ (e ++ [])))))))))
    ≡ a ++ m ++ c ++ (o ++ p ++ w ++ q ++ v ++ r) ++ e
two_sets_parts a b c o n w s v t e m p q r number name first second =
    rw (number, name, first, second) (simp (append_assoc, append-nil))

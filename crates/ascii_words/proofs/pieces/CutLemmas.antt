-- How characters that are cut in two places are cut as a whole.
use Rattle.std.proofs.Common.{◌≡◌, ℕ, Bool, true, false, List, [], ◌∷◌, ◌++◌, refl, sym, ap, ap₂}
use Rattle.std.proofs.Common.{◌∙◌, append_assoc}
use Rattle.unicode_segmentation.specs.Segments.{Rule, cut}
use Rattle.unicode_segmentation.proofs.SegmentsLemmas.{attach, attach_last, postpend}

-- the characters of cs in reverse, and then `before`
abbrev pub onto : List ℕ → List ℕ → List ℕ
onto [] before = before
onto (c ∷ cs) before = onto cs (c ∷ before)

pub onto-push : (cs before : List ℕ) (c : ℕ) → onto (cs ++ c ∷ []) before ≡ c ∷ onto cs before
onto-push [] before c = refl
onto-push (x ∷ cs) before c = onto-push cs (x ∷ before) c

-- ---- pieces, and a part put before or behind them

pub attach-nil : (b : Bool) (x : List ℕ) → attach b x [] ≡ x ∷ []
attach-nil true x = refl
attach-nil false x = refl

attach_last-nil : (b : Bool) (x : List ℕ) → attach_last b [] x ≡ x ∷ []
attach_last-nil true x = refl
attach_last-nil false x = refl

pub postpend-append :
    (ps : List (List ℕ)) (x y : List ℕ) → postpend (ps ++ x ∷ []) y ≡ ps ++ (x ++ y) ∷ []
postpend-append [] x y = refl
postpend-append (p ∷ []) x y = refl
postpend-append (p ∷ (q ∷ ps)) x y = ap (λ t. p ∷ t) (postpend-append (q ∷ ps) x y)

-- the two ends of a list with a piece don't disturb each other
attach-attach_last :
    (b d : Bool) (x y p : List ℕ) (ps : List (List ℕ))
    → attach b x (attach_last d (p ∷ ps) y) ≡ attach_last d (attach b x (p ∷ ps)) y
attach-attach_last true true x y p ps = refl
attach-attach_last true false x y p ps = refl
attach-attach_last false true x y p ps = refl
attach-attach_last false false x y p [] = ap (λ t. t ∷ []) (sym (append_assoc x p y))
attach-attach_last false false x y p (q ∷ ps) = refl

attach-append :
    (b : Bool) (x p : List ℕ) (ps qs : List (List ℕ))
    → attach b x ((p ∷ ps) ++ qs) ≡ attach b x (p ∷ ps) ++ qs
attach-append true x p ps qs = refl
attach-append false x p ps qs = refl

attach_some :
    (b : Bool) (x : List ℕ) (ps : List (List ℕ))
    → (q : List ℕ) × (qs : List (List ℕ)) × (attach b x ps ≡ q ∷ qs)
attach_some true x ps = (x, ps, refl)
attach_some false x [] = (x, [], refl)
attach_some false x (p ∷ ps) = (x ++ p, ps, refl)

-- ---- the cut

-- one character more at the end
pub cut-push :
    (rule : Rule) (before cs : List ℕ) (c : ℕ) (after : List ℕ)
    → cut rule before (cs ++ c ∷ []) after
    ≡ attach_last (rule (onto cs before) (c ∷ after)) (cut rule before cs (c ∷ after)) (c ∷ [])
unfolding cut
cut-push rule before [] c after = attach-nil _ (c ∷ []) ∙ sym (attach_last-nil _ (c ∷ []))
cut-push rule before (x ∷ []) c after =
    let b = rule (x ∷ before) (c ∷ after) in
    ap (attach b (x ∷ [])) (attach-nil (rule (c ∷ (x ∷ before)) after) (c ∷ []))
    ∙ two b ∙ ap (λ t. attach_last b t (c ∷ [])) (sym (attach-nil b (x ∷ [])))
  where
    two : (b : Bool)
        → attach b (x ∷ []) ((c ∷ []) ∷ []) ≡ attach_last b ((x ∷ []) ∷ []) (c ∷ [])
    two true = refl
    two false = refl
cut-push rule before (x ∷ (y ∷ cs)) c after =
    let b = rule (x ∷ before) (y ∷ (cs ++ c ∷ after)) in
    let d = rule (onto cs (y ∷ (x ∷ before))) (c ∷ after) in
    let inner =
    attach_some (rule (y ∷ (x ∷ before)) (cs ++ c ∷ after)) (y ∷ [])
    (cut rule (y ∷ (x ∷ before)) cs (c ∷ after)) in
    ap₂ (λ t ps. attach (rule (x ∷ before) (y ∷ t)) (x ∷ []) ps)
    (append_assoc cs (c ∷ []) after) (cut-push rule (x ∷ before) (y ∷ cs) c after)
    ∙ ap (λ ps. attach b (x ∷ []) (attach_last d ps (c ∷ []))) inner.2
    ∙ attach-attach_last b d (x ∷ []) (c ∷ []) inner.0 inner.1
    ∙ ap (λ ps. attach_last d (attach b (x ∷ []) ps) (c ∷ [])) (sym inner.2)

-- at a place that the rule breaks, the two sides are cut on their own
pub cut-append :
    (rule : Rule) (before xs ys after : List ℕ) → rule (onto xs before) (ys ++ after) ≡ true
    → cut rule before (xs ++ ys) after
    ≡ cut rule before xs (ys ++ after) ++ cut rule (onto xs before) ys after
unfolding cut
cut-append rule before [] ys after e = refl
cut-append rule before (x ∷ []) ys after e =
    let more = cut rule (x ∷ before) ys after in
    ap (λ b. attach b (x ∷ []) more) e ∙ ap (λ b. attach b (x ∷ []) [] ++ more) (sym e)
cut-append rule before (x ∷ (y ∷ xs)) ys after e =
    let b = rule (x ∷ before) (y ∷ (xs ++ (ys ++ after))) in
    let more = cut rule (onto xs (y ∷ (x ∷ before))) ys after in
    let inner =
    attach_some (rule (y ∷ (x ∷ before)) (xs ++ (ys ++ after))) (y ∷ [])
    (cut rule (y ∷ (x ∷ before)) xs (ys ++ after)) in
    ap₂ (λ t ps. attach (rule (x ∷ before) (y ∷ t)) (x ∷ []) ps)
    (append_assoc xs ys after) (cut-append rule (x ∷ before) (y ∷ xs) ys after e)
    ∙ ap (λ ps. attach b (x ∷ []) (ps ++ more)) inner.2
    ∙ attach-append b (x ∷ []) inner.0 inner.1 more
    ∙ ap (λ ps. attach b (x ∷ []) ps ++ more) (sym inner.2)

-- What the calls that take parts owe.
use Rattle.std.proofs.Common.{◌≡◌, ℕ, ◌+◌, ◌<◌, List, [], ◌∷◌, ◌++◌, cond, Bool, true, false, ◌==◌, length, take, get_or, refl, sym, ap, ◌∙◌, subst, arith, eqb-true}
use Rattle.std.proofs.lemmas.Bool.{eqb-false}
use Rattle.std.proofs.lemmas.List.{take_more, append-nil}
use Rattle.monomials.specs.Mono.{IsMono}
use Rattle.polys.specs.declared.term.Term.{Term}
use Rattle.polys.specs.Poly.{IsVector}
use Rattle.polys.proofs.Each.{every_more}
use Rattle.denominator_module.specs.Module.{first, second}
use Rattle.denominator_module.proofs.Components.{lowered, IsFirstOrSecond, first-append, every_first, canonical_first, second-append, every_second, canonical_second}

-- ---- one more term of a loop

next : (f : List Term) (i : ℕ) (t : Term) → i < length f → t ≡ get_or f i t → take (i + 1) f ≡ take i f ++ t ∷ []
next f i t h e = take_more f i t h ∙ (λ j. take i f ++ sym e j ∷ [])

pub first_kept : (f : List Term) (i : ℕ) (t : Term) → i < length f → t ≡ get_or f i t → t.mono.component ≡ 0 → first (take (i + 1) f) ≡ first (take i f) ++ t ∷ []
first_kept f i t h e z = ap first (next f i t h e) ∙ first-append (take i f) (t ∷ []) ∙ ap (λ w. first (take i f) ++ w) (go (t.mono.component == 0) refl)
  where
    go : (b : Bool) → (t.mono.component == 0) ≡ b → cond b (t ∷ []) [] ≡ t ∷ []
    go true k = refl
    go false k = absurd (eqb-false t.mono.component 0 k z)

pub first_left : (f : List Term) (i : ℕ) (t : Term) → i < length f → t ≡ get_or f i t → (t.mono.component ≡ 0 → ⊥) → first (take (i + 1) f) ≡ first (take i f)
first_left f i t h e z =
    ap first (next f i t h e) ∙ first-append (take i f) (t ∷ []) ∙ ap (λ w. first (take i f) ++ w) (go (t.mono.component == 0) refl) ∙ append-nil (first (take i f))
  where
    go : (b : Bool) → (t.mono.component == 0) ≡ b → cond b (t ∷ []) [] ≡ []
    go true k = absurd (z (eqb-true t.mono.component 0 k))
    go false k = refl

pub second_kept : (f : List Term) (i : ℕ) (t : Term) → i < length f → t ≡ get_or f i t → (t.mono.component ≡ 0 → ⊥)
    → second (take (i + 1) f) ≡ second (take i f) ++ record { coeff = t.coeff; mono = lowered t.mono } ∷ []
second_kept f i t h e z = ap second (next f i t h e) ∙ second-append (take i f) (t ∷ []) ∙ ap (λ w. second (take i f) ++ w) (go (t.mono.component == 0) refl)
  where
    go : (b : Bool) → (t.mono.component == 0) ≡ b → cond {A = List Term} b [] (record { coeff = t.coeff; mono = lowered t.mono } ∷ []) ≡ record { coeff = t.coeff; mono = lowered t.mono } ∷ []
    go true k = absurd (z (eqb-true t.mono.component 0 k))
    go false k = refl

pub second_left : (f : List Term) (i : ℕ) (t : Term) → i < length f → t ≡ get_or f i t → t.mono.component ≡ 0 → second (take (i + 1) f) ≡ second (take i f)
second_left f i t h e z =
    ap second (next f i t h e) ∙ second-append (take i f) (t ∷ []) ∙ ap (λ w. second (take i f) ++ w) (go (t.mono.component == 0) refl) ∙ append-nil (second (take i f))
  where
    go : (b : Bool) → (t.mono.component == 0) ≡ b → cond {A = List Term} b [] (record { coeff = t.coeff; mono = lowered t.mono } ∷ []) ≡ []
    go true k = refl
    go false k = absurd (eqb-false t.mono.component 0 k z)

-- ---- the parts are vectors

pub first_vector : (p q : ℕ) (f g h : List Term) → IsVector p f → q ≡ p → h ≡ f → g ≡ first h → IsVector q g
first_vector p q f g h v e a b =
    subst (λ r. IsVector r g) (sym e)
    (subst (IsVector p) (sym (b ∙ ap first a)) (record { canonical = canonical_first p f v.canonical; monos = every_first IsMono f v.monos }))

pub second_vector : (p q : ℕ) (f g h : List Term) → IsVector p f → q ≡ p → h ≡ f → g ≡ second h → IsVector q g
second_vector p q f g h v e a b =
    subst (λ r. IsVector r g) (sym e)
    (subst (IsVector p) (sym (b ∙ ap second a))
    (record {
      canonical = canonical_second p f (every_more IsMono IsFirstOrSecond f (λ m x. x.one_of_two) v.monos) v.canonical;
      monos = every_second IsMono IsMono f (λ m z x. record { seven = x.seven; bounded = x.bounded; one_of_two = (omega arith) }) v.monos;
    }))

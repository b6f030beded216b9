-- Monic equations, written from the highest coefficient on and from the lowest on.
use Rattle.std.proofs.Common.{◌≡◌, ℕ, suc, ◌+◌, ◌<◌, List, [], ◌∷◌, ◌++◌, length, refl, sym, ap, ap₂, ◌∙◌, subst, arith, length-append}
use Rattle.std.proofs.lemmas.List.{length-map}
use Rattle.comm_ring.specs.Ring.{CommRing, pow}
use Rattle.comm_ring.specs.Ideals as Ideals
use Rattle.comm_ring.proofs.Derived as Derived
use Rattle.comm_ring.proofs.Ideals as IdealLaws
use Rattle.comm_ring.proofs.Quote.{ring, quote}
use Rattle.fraction_laws.specs.Fractions.{monic, IntegralAt}
use Rattle.polys.specs.Terms.{add, mul, power}
use Rattle.polys.specs.Ideal.{InIdeal}
use Rattle.polys.specs.Curve.{CurveData}
use Rattle.curve_model.specs.Fraction.{Fraction, IsFraction, denominator_power}
use Rattle.curve_model.specs.Integral.{Integral, lower_sum, monic_sum}
use Rattle.curve_model.specs.Laws.{IsRegular}
use Rattle.curve_laws.proofs.Members.{ideal_from, ideal_to}
use Rattle.ideal_laws.proofs.Members.{terms_of, lift, terms-lift, polys_of}
use Rattle.curve_laws.proofs.Chains.{chain, flip, from_zero, of_zero}
use Rattle.curve_laws.proofs.Base.{high, Ring, Poly, I, d, Q, Curve, member, pow-curve, pow_d}

pub rev : {X : Type 0} → List X → List X
rev [] = []
rev (x ∷ xs) = rev xs ++ (x ∷ [])

rev-append : {X : Type 0} (xs : List X) (x : X) → rev (xs ++ (x ∷ [])) ≡ x ∷ rev xs
unfolding rev
rev-append [] x = refl
rev-append (y ∷ xs) x = ap (λ l. l ++ (y ∷ [])) (rev-append xs x)

pub rev-rev : {X : Type 0} (xs : List X) → rev (rev xs) ≡ xs
unfolding rev
rev-rev [] = refl
rev-rev (x ∷ xs) = rev-append (rev xs) x ∙ ap (λ l. x ∷ l) (rev-rev xs)

pub length-rev : {X : Type 0} (xs : List X) → length (rev xs) ≡ length xs
unfolding rev
length-rev [] = refl
length-rev (x ∷ xs) = length-append (rev xs) (x ∷ []) ∙ (let e : length (rev xs) ≡ length xs = length-rev xs in omega arith)

module _ (C : CommRing) where
  open C use {ops, carrier, ◌≈◌, ◌⊕◌, ◌⊗◌, 𝟘, 𝟙, rfl, symm, trans, add_cong, mul_cong}

  infix 40 ◌≈◌
  infixl 60 ◌⊕◌
  infixl 70 ◌⊗◌
  abbrev pub low : carrier → carrier → ℕ → List carrier → carrier
  low a e i [] = 𝟘
  low a e i (c ∷ cs) = (c ⊗ (pow ops e i ⊗ pow ops a (length cs))) ⊕ low a e (suc i) cs

  abbrev pub whole : carrier → carrier → List carrier → carrier
  whole a e cs = pow ops a (length cs) ⊕ low a e 1 cs

  low_more : (a e c : carrier) (i : ℕ) (cs : List carrier) → low a e i (cs ++ (c ∷ [])) ≈ (a ⊗ low a e i cs) ⊕ (c ⊗ pow ops e (i + length cs))
  unfolding pow
  low_more a e c i [] = trans (ring C (a ∷ c ∷ pow ops e i ∷ []) (search quote depth 20) tt)
      (add_cong (rfl (a ⊗ 𝟘)) (mul_cong (rfl c) (Derived.pow_same C e i (i + 0) (omega arith))))
  low_more a e c i (b ∷ cs) =
      trans (add_cong (mul_cong (rfl b) (mul_cong (rfl (pow ops e i)) (Derived.pow_same C a (length (cs ++ (c ∷ []))) (suc (length cs)) (length-append cs (c ∷ []) ∙ (let q : length cs + 1 ≡ suc (length cs) = omega arith in q))))) (low_more a e c (suc i) cs))
      (trans (ring C (a ∷ b ∷ c ∷ pow ops e i ∷ pow ops a (length cs) ∷ low a e (suc i) cs ∷ pow ops e (suc i + length cs) ∷ []) (search quote depth 20) tt)
      (add_cong (rfl (a ⊗ ((b ⊗ (pow ops e i ⊗ pow ops a (length cs))) ⊕ low a e (suc i) cs))) (mul_cong (rfl c) (Derived.pow_same C e (suc i + length cs) (i + suc (length cs)) (omega arith)))))

  pub whole_is_monic : (z a e : carrier) (cs : List carrier) → whole a e (rev cs) ≈ monic ops z cs a e
  unfolding pow rev
  whole_is_monic z a e [] = C.add_zero 𝟙
  whole_is_monic z a e (c ∷ cs) =
      trans (add_cong (Derived.pow_same C a (length (rev cs ++ (c ∷ []))) (suc (length (rev cs))) (length-append (rev cs) (c ∷ []) ∙ (let q : length (rev cs) + 1 ≡ suc (length (rev cs)) = omega arith in q))) (low_more a e c 1 (rev cs)))
      (trans (ring C (a ∷ c ∷ pow ops a (length (rev cs)) ∷ low a e 1 (rev cs) ∷ pow ops e (1 + length (rev cs)) ∷ []) (search quote depth 20) tt)
      (add_cong (mul_cong (rfl a) (whole_is_monic z a e cs)) (mul_cong (rfl c) (Derived.pow_same C e (1 + length (rev cs)) (suc (length cs)) (let q : length (rev cs) ≡ length cs = length-rev cs in omega arith)))))

module _ (A : CurveData) (c : IsRegular A) where
  -- a member is 0 modulo I where it is in the ideal
  pub zero_up : (x : Poly A c) → InIdeal A.prime A.variables A.ideal x.terms → (Q A c).◌≈◌ x (Q A c).𝟘
  zero_up x i = from_zero (Ring A c) (Ideals.InIdeal (Ring A c).ops (I A c)) (IdealLaws.ideal_of_list (Ring A c) (I A c)) x (ideal_from A.prime A.variables (high A c) A.ideal c.ideal x i)

  pub zero_down : (x : Poly A c) → (Q A c).◌≈◌ x (Q A c).𝟘 → InIdeal A.prime A.variables A.ideal x.terms
  zero_down x i = ideal_to A.prime A.variables (high A c) A.ideal c.ideal x (of_zero (Ring A c) (Ideals.InIdeal (Ring A c).ops (I A c)) (IdealLaws.ideal_of_list (Ring A c) (I A c)) x i)

  low-terms : (a e : Poly A c) (i : ℕ) (cs : List (Poly A c)) → (low (Curve A c) a e i cs).terms ≡ lower_sum A.prime a.terms e.terms i (terms_of cs)
  low-terms a e i [] = refl
  low-terms a e i (b ∷ cs) = ap₂ (add A.prime)
      (ap (mul A.prime b.terms) (ap₂ (mul A.prime) (pow-curve A c e i) (pow-curve A c a (length cs) ∙ ap (power A.prime a.terms) (sym (length-map cs (λ g. g.terms))))))
      (low-terms a e (suc i) cs)

  whole-terms : (a e : Poly A c) (cs : List (Poly A c)) → (whole (Curve A c) a e cs).terms ≡ monic_sum A.prime a.terms e.terms (terms_of cs)
  whole-terms a e cs = ap₂ (add A.prime) (pow-curve A c a (length cs) ∙ ap (power A.prime a.terms) (sym (length-map cs (λ g. g.terms)))) (low-terms a e 1 cs)

  module _ (f : Fraction) (h : IsFraction A f) where
    abbrev a : Poly A c
    a = member A c f.numerator h

    abbrev e : Poly A c
    e = pow (Q A c) (d A c) f.exponent

    equation : (cs : List (Poly A c)) → (whole (Curve A c) a e cs).terms ≡ monic_sum A.prime f.numerator (denominator_power A f.exponent) (terms_of cs)
    equation cs = whole-terms a e cs ∙ ap (λ z. monic_sum A.prime f.numerator z (terms_of cs)) (pow_d A c f.exponent)

    pub integral_up : Integral A f → IntegralAt (Q A c) (d A c) a f.exponent
    integral_up w =
        let cs = lift A.prime A.variables w.coefficients w.polys in
        let t : terms_of cs ≡ w.coefficients = terms-lift A.prime A.variables w.coefficients w.polys in
        let back : rev (rev cs) ≡ cs = rev-rev cs in (
          rev cs,
          (let l : length (rev cs) ≡ length cs = length-rev cs in let k : length (terms_of cs) ≡ length cs = length-map cs (λ g. g.terms) in let q : length (terms_of cs) ≡ length w.coefficients = ap length t in let r : 0 < length w.coefficients = w.some in omega arith),
          chain (Curve A c) (monic (Q A c) (d A c) (rev cs) a e) (whole (Curve A c) a e (rev (rev cs))) (Q A c).𝟘 (flip (Curve A c) (whole (Curve A c) a e (rev (rev cs))) (monic (Q A c) (d A c) (rev cs) a e) (whole_is_monic (Curve A c) (d A c) a e (rev cs)))
              (zero_up (whole (Curve A c) a e (rev (rev cs)))
              (subst (InIdeal A.prime A.variables A.ideal) (sym (equation (rev (rev cs)) ∙ ap (monic_sum A.prime f.numerator (denominator_power A f.exponent)) (ap terms_of back ∙ t))) w.equation)),
        )

    pub integral_down : IntegralAt (Q A c) (d A c) a f.exponent → Integral A f
    integral_down w = record {
      coefficients = terms_of (rev w.0);
      polys = polys_of A.prime A.variables (rev w.0);
      some = (let l : length (rev w.0) ≡ length w.0 = length-rev w.0 in let k : length (terms_of (rev w.0)) ≡ length (rev w.0) = length-map (rev w.0) (λ g. g.terms) in let r : 0 < length w.0 = w.1 in omega arith);
      equation = subst (InIdeal A.prime A.variables A.ideal) (equation (rev w.0))
          (zero_down (whole (Curve A c) a e (rev w.0)) (chain (Curve A c) (whole (Curve A c) a e (rev w.0)) (monic (Q A c) (d A c) w.0 a e) (Q A c).𝟘 (whole_is_monic (Curve A c) (d A c) a e w.0) w.2));
    }
